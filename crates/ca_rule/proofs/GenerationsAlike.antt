-- Rules of the family Generations do alike exactly where they are equal, and those of two states do as B/S rules.
use Rattle.std.proofs.Common.{◌≡◌, ◌≢◌, ◌==◌, ◌<◌, ◌≤◌, ℕ, zero, suc, List, [], ◌∷◌, Bool, true, false, nat_lt, length, map, slice_index, if◌then◌else◌, ◌↔◌, inl, inr, refl, ap, ap₂, sym, ◌∙◌, arith}
use Rattle.std.specs.List.{All, list_any}
use Rattle.std.proofs.lemmas.Bool.{cases_Bool}
use Rattle.std.proofs.lemmas.Bool.Decides.{nat_tests}
use Rattle.std.proofs.lemmas.List.Elements.{All-get_or, All-from_recursion}
use Rattle.ca_rule.specs.Prelude.{is_count, live_count, generations_next_state, generations_next}
use Rattle.ca_plane.specs.Prelude.{liveness, older}
use Rattle.ca_rule.specs.Next as bs
use Rattle.ca_rule.specs.declared.counts.Counts.{Counts}
use Rattle.ca_rule.specs.declared.hood.Hood.TheVariants.{Moore}
use Rattle.ca_rule.proofs.PrintedRules.{numbers, below_nine}
use Rattle.ca_rule.proofs.SameCounts.{alike_counts}

-- ---- of two states

-- a state below 2 is 1 where it is live
pub liveness-below : (s : ℕ) → s < 2 → liveness s ≡ s
liveness-below zero low = refl
liveness-below (suc zero) low = refl
liveness-below (suc (suc s)) low = absurd (omega arith)

all-live : (cells : List ℕ) → All (λ s. s < 2) cells → map liveness cells ≡ cells
all-live [] low = refl
all-live (c ∷ cs) low = ap₂ (λ x xs. x ∷ xs) (liveness-below c (low 0 0 (omega arith))) (all-live cs (λ k d within. low (suc k) d (omega arith)))

of-two : (survival birth : Counts) (centre count : ℕ) → centre < 2 → generations_next_state survival birth 2 centre count ≡ bs.bs_next_state birth survival centre count
of-two survival birth zero count low = refl
of-two survival birth (suc zero) count low = refl
of-two survival birth (suc (suc c)) count low = absurd (omega arith)

pub as-bs : (survival birth : Counts) (nine : List ℕ) → length nine ≡ 9 → All (λ s. s < 2) nine → generations_next survival birth 2 nine ≡ bs.bs_next Moore birth survival nine
as-bs survival birth nine long low =
    ap (λ cells. generations_next_state survival birth 2 (slice_index nine 4) (bs.neighbour_count Moore cells)) (all-live nine low)
    ∙ of-two survival birth (slice_index nine 4) (bs.neighbour_count Moore nine) (All-get_or (λ s. s < 2) nine 4 0 (omega arith) low)

-- ---- alike

-- the cells round a centre of which the first n are live
abbrev cell : ℕ → ℕ → ℕ
cell n k = if nat_lt k n then 1 else 0

abbrev cells_of : ℕ → ℕ → List ℕ
cells_of c n = cell n 0 ∷ cell n 1 ∷ cell n 2 ∷ cell n 3 ∷ c ∷ cell n 4 ∷ cell n 5 ∷ cell n 6 ∷ cell n 7 ∷ []

cells-count : (c n : ℕ) → n < 9 → live_count (cells_of c n) ≡ n
cells-count c = below_nine (λ n. live_count (cells_of c n) ≡ n) (refl, refl, refl, refl, refl, refl, refl, refl, refl)

cell-low : (n k states : ℕ) → 2 ≤ states → cell n k < states
cell-low n k states low = elim (cases_Bool (nat_lt k n)) [ inl t ↦ rw t (omega arith) | inr t ↦ rw t (omega arith) ]

cells-low : (c n states : ℕ) → 2 ≤ states → c < states → All (λ s. s < states) (cells_of c n)
cells-low c n states low below =
    let one : (k : ℕ) → cell n k < states = λ k. cell-low n k states low in
    All-from_recursion (λ s. s < states) (cells_of c n) (one 0, (one 1, (one 2, (one 3, (below, (one 4, (one 5, (one 6, (one 7, tt)))))))))

-- a number of counts is below 9
below-9 : (n : ℕ) → list_any (λ m. m == n) numbers ≡ true → n < 9
below-9 n h = grind (arith, nat_tests)

-- the outcome of a test tells the test, where the other outcome is not 1
one-test : (x y : Bool) (other : ℕ) → other ≢ 1 → (if x then 1 else other) ≡ (if y then 1 else other) → x ≡ y
one-test true true other apart e = refl
one-test true false other apart e = absurd (apart (sym e))
one-test false true other apart e = absurd (apart e)
one-test false false other apart e = refl

older-not_1 : (states : ℕ) → older states 1 ≢ 1
older-not_1 states e = elim (cases_Bool (nat_lt 2 states)) [ inl t ↦ (let k = rw t at e in omega (arith, k)) | inr t ↦ (let k = rw t at e in omega (arith, k)) ]

module _ (states : ℕ) (low : 2 ≤ states) (s b t d : Counts) (alike : (nine : List ℕ) → length nine ≡ 9 → All (λ x. x < states) nine → generations_next s b states nine ≡ generations_next t d states nine) where
  alike-at : (c n : ℕ) → c < states → n < 9 → generations_next_state s b states c n ≡ generations_next_state t d states c n
  alike-at c n below few =
      ap (generations_next_state s b states c) (sym (cells-count c n few)) ∙ alike (cells_of c n) refl (cells-low c n states low below) ∙ ap (generations_next_state t d states c) (cells-count c n few)

  alike-births : length b.holds ≡ 9 → length d.holds ≡ 9 → b ≡ d
  alike-births lb ld = alike_counts b d lb ld (λ n h. one-test (is_count b n) (is_count d n) 0 (λ e. omega (arith, e)) (alike-at 0 n (omega arith) (below-9 n h)))

  alike-survivals : length s.holds ≡ 9 → length t.holds ≡ 9 → s ≡ t
  alike-survivals ls lt = alike_counts s t ls lt (λ n h. one-test (is_count s n) (is_count t n) (older states 1) (older-not_1 states) (alike-at 1 n (omega arith) (below-9 n h)))

-- two rules are equal exactly where they have as many states and do alike
pub do-alike : (s b t d : Counts) (n m : ℕ) → 2 ≤ n → length s.holds ≡ 9 → length b.holds ≡ 9 → length t.holds ≡ 9 → length d.holds ≡ 9
    → ((n ≡ m) × ((nine : List ℕ) → length nine ≡ 9 → All (λ x. x < n) nine → generations_next s b n nine ≡ generations_next t d m nine)) ↔ ((s ≡ t) × (b ≡ d) × (n ≡ m))
do-alike s b t d n m low ls lb lt ld = (
  λ h.
      let alike : (nine : List ℕ) → length nine ≡ 9 → All (λ x. x < n) nine → generations_next s b n nine ≡ generations_next t d n nine = λ nine long below. h.1 nine long below ∙ ap (λ k. generations_next t d k nine) (sym h.0) in
      (alike-survivals n low s b t d alike ls lt, alike-births n low s b t d alike lb ld, h.0),
  λ e. (e.2, λ nine long below i. generations_next (e.0 i) (e.1 i) (e.2 i) nine),
)
