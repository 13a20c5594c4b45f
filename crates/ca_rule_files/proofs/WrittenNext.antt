-- Each nine cells of two states are one of the 512 neighbourhoods. Where each neighbourhood gives its own next state to itself alone,
-- it is given to each.
use Rattle.std.proofs.Common.{◌≡◌, ℕ, zero, suc, ◌+◌, ◌*◌, ◌/◌, ◌%◌, ◌<◌, List, [], ◌∷◌, length, map, filter, false, refl, sym, ap, ◌∙◌, inl, inr, ◌⊎◌, arith, if◌then◌else◌, slice_index, All, add-zero, zero-add, lit<}
use Rattle.std.proofs.lemmas.List.Elements.{All-from_recursion}
use Rattle.std.proofs.lemmas.List.FromFn.{fill_by_all}
use Rattle.std.specs.List.{range_with_len, AllByRecursion}
use Rattle.std.proofs.lemmas.Bool.{cases_Bool}
use Rattle.std.proofs.lemmas.Bool.Decides.{nat_tests}
use Rattle.ca_rule_files.specs.Prelude.{number_of}
use Rattle.ca_rule_files.specs.WrittenTables.{ring_of, neighbourhood, neighbourhoods, changes}
use Rattle.ca_rule_files.proofs.WrittenTables.{AreBits}

-- ---- nine cells by their inputs

-- nine cells in the order of a transition's inputs
abbrev pub inputs_of : List ℕ → List ℕ
inputs_of nine = slice_index nine 4 ∷ ring_of nine

-- nine cells as their list
pub spread : (nine : List ℕ) → length nine ≡ 9 → nine ≡ map (slice_index nine) (0 ∷ 1 ∷ 2 ∷ 3 ∷ 4 ∷ 5 ∷ 6 ∷ 7 ∷ 8 ∷ [])
spread nine long = fill_by_all (slice_index nine) nine 9 0 long (λ k h. refl)

pub inputs-tell : (m n : List ℕ) → length m ≡ 9 → length n ≡ 9 → inputs_of m ≡ inputs_of n → m ≡ n
inputs-tell m n lm ln e =
    let back = ap (λ l. map (slice_index l) (8 ∷ 1 ∷ 2 ∷ 7 ∷ 0 ∷ 3 ∷ 6 ∷ 5 ∷ 4 ∷ [])) e in
    spread m lm ∙ back ∙ sym (spread n ln)

-- nine dead and live cells
abbrev pub IsOfBits : List ℕ → Type 0
IsOfBits nine = (length nine ≡ 9) × AreBits (inputs_of nine) × All (λ s. s < 2) nine

-- ---- the next state

-- the list has these nine cells
abbrev pub Holds : List ℕ → List (List ℕ) → Type 0
Holds nine [] = ⊥
Holds nine (m ∷ ms) = (m ≡ nine) ⊎ Holds nine ms

-- neighbourhoods give the next state of one where each gives its own to itself and is passed by the others, and none of them give the
-- centre
module _ (next : List ℕ → ℕ) (nine : List ℕ) (P : List ℕ → Type 0) (given : List (List ℕ) → ℕ) (none : given [] ≡ slice_index nine 4)
    (first : (m : List ℕ) (ms : List (List ℕ)) → P m → ((m ≡ nine) × (given (m ∷ ms) ≡ next nine)) ⊎ ((m ≡ nine → ⊥) × (given (m ∷ ms) ≡ given ms))) where
  -- where the first is another neighbourhood, the others have it if all have it
  left-out : (m : List ℕ) (ms : List (List ℕ)) → (m ≡ nine → ⊥) → (next nine ≡ slice_index nine 4) ⊎ Holds nine (m ∷ ms) → (next nine ≡ slice_index nine 4) ⊎ Holds nine ms
  left-out m ms other (inl stays) = inl stays
  left-out m ms other (inr (inl same)) = absurd (other same)
  left-out m ms other (inr (inr more)) = inr more

  -- where the first doesn't change, it is left out
  passed : (m : List ℕ) (ms : List (List ℕ)) → changes next m ≡ false → (next nine ≡ slice_index nine 4) ⊎ Holds nine (m ∷ ms) → (next nine ≡ slice_index nine 4) ⊎ Holds nine ms
  passed m ms t (inl stays) = inl stays
  passed m ms t (inr (inl same)) =
      let u : changes next nine ≡ false = ap (changes next) (sym same) ∙ t in
      let equal : next nine ≡ slice_index nine 4 = grind (arith, nat_tests) in inl equal
  passed m ms t (inr (inr more)) = inr more

  pub next-given : (ms : List (List ℕ)) → AllByRecursion P ms → (next nine ≡ slice_index nine 4) ⊎ Holds nine ms → given (filter (changes next) ms) ≡ next nine
  next-given [] all (inl stays) = none ∙ sym stays
  next-given [] all (inr h) = absurd h
  next-given (m ∷ ms) all h = elim (cases_Bool (changes next m)) [
    | inl t ↦ ap (λ v. given (if v then m ∷ filter (changes next) ms else filter (changes next) ms)) t ∙ elim (first m (filter (changes next) ms) all.0) [
      | inl here ↦ here.1
      | inr other ↦ other.1 ∙ next-given ms all.1 (left-out m ms other.0 h)
    ]
    | inr t ↦ ap (λ v. given (if v then m ∷ filter (changes next) ms else filter (changes next) ms)) t ∙ next-given ms all.1 (passed m ms t h)
  ]

-- ---- all neighbourhoods

-- a cell of two states
bit-at : (nine : List ℕ) → length nine ≡ 9 → All (λ s. s < 2) nine → (k : ℕ) → k < 9 → slice_index nine k < 2
bit-at nine long bits k low = bits k 0 (omega arith)

-- the binary digits of a number made of them
module _ (a b c d e f g h i : ℕ) (ha : a < 2) (hb : b < 2) (hc : c < 2) (hd : d < 2) (he : e < 2) (hf : f < 2) (hg : g < 2) (hh : h < 2) (hi : i < 2) where
  abbrev whole : ℕ
  whole = 256 * a + 128 * b + 64 * c + 32 * d + 16 * e + 8 * f + 4 * g + 2 * h + i

  whole-low : whole < 512
  whole-low = omega arith

  digits-back : neighbourhood whole ≡ a ∷ b ∷ c ∷ d ∷ e ∷ f ∷ g ∷ h ∷ i ∷ []
  digits-back =
      let da : whole / 256 % 2 ≡ a = omega arith in
      let db : whole / 128 % 2 ≡ b = omega arith in
      let dc : whole / 64 % 2 ≡ c = omega arith in
      let dd : whole / 32 % 2 ≡ d = omega arith in
      let de : whole / 16 % 2 ≡ e = omega arith in
      let df : whole / 8 % 2 ≡ f = omega arith in
      let dg : whole / 4 % 2 ≡ g = omega arith in
      let dh : whole / 2 % 2 ≡ h = omega arith in
      let di : whole / 1 % 2 ≡ i = omega arith in
      λ t. da t ∷ db t ∷ dc t ∷ dd t ∷ de t ∷ df t ∷ dg t ∷ dh t ∷ di t ∷ []

module _ (nine : List ℕ) (long : length nine ≡ 9) (bits : All (λ s. s < 2) nine) where
  bit : (k : ℕ) → k < 9 → slice_index nine k < 2
  bit = bit-at nine long bits

  pub number-low : number_of nine < 512
  number-low = whole-low (slice_index nine 0) (slice_index nine 1) (slice_index nine 2) (slice_index nine 3) (slice_index nine 4) (slice_index nine 5) (slice_index nine 6) (slice_index nine 7) (slice_index nine 8) (bit 0 (lit< tt)) (bit 1 (lit< tt)) (bit 2 (lit< tt)) (bit 3 (lit< tt)) (bit 4 (lit< tt)) (bit 5 (lit< tt)) (bit 6 (lit< tt)) (bit 7 (lit< tt)) (bit 8 (lit< tt))

  pub number-tells : neighbourhood (number_of nine) ≡ nine
  number-tells =
      digits-back (slice_index nine 0) (slice_index nine 1) (slice_index nine 2) (slice_index nine 3) (slice_index nine 4) (slice_index nine 5) (slice_index nine 6) (slice_index nine 7) (slice_index nine 8)
      (bit 0 (lit< tt)) (bit 1 (lit< tt)) (bit 2 (lit< tt)) (bit 3 (lit< tt)) (bit 4 (lit< tt)) (bit 5 (lit< tt)) (bit 6 (lit< tt)) (bit 7 (lit< tt)) (bit 8 (lit< tt))
      ∙ sym (spread nine long)

-- a neighbourhood of the range is held
pub in-range : (from count n : ℕ) (nine : List ℕ) → n < count → neighbourhood (from + n) ≡ nine → Holds nine (map neighbourhood (range_with_len from count))
in-range from zero n nine low e = absurd (omega arith)
in-range from (suc count) zero nine low e = inl (ap neighbourhood (sym (add-zero from)) ∙ e)
in-range from (suc count) (suc n) nine low e =
    let lower : n < count = omega arith in
    let moved : from + 1 + n ≡ from + suc n = omega arith in
    inr (in-range (from + 1) count n nine lower (ap neighbourhood moved ∙ e))

pub all-held : (nine : List ℕ) → length nine ≡ 9 → All (λ s. s < 2) nine → Holds nine (neighbourhoods 512)
unfolding neighbourhoods
all-held nine long bits = in-range 0 512 (number_of nine) nine (number-low nine long bits) (ap neighbourhood (zero-add (number_of nine)) ∙ number-tells nine long bits)

-- and each of them is of nine dead and live cells
digit-low : (n weight : ℕ) → n / weight % 2 < 2
digit-low n weight = omega arith

inputs-bits : (n : ℕ) → AreBits (inputs_of (neighbourhood n))
inputs-bits n = (digit-low n 16, (digit-low n 128, (digit-low n 64, (digit-low n 8, (digit-low n 1, (digit-low n 2, (digit-low n 4, (digit-low n 32, (digit-low n 256, tt)))))))))

bits-of : (n : ℕ) → AreBits (neighbourhood n)
bits-of n = (digit-low n 256, (digit-low n 128, (digit-low n 64, (digit-low n 32, (digit-low n 16, (digit-low n 8, (digit-low n 4, (digit-low n 2, (digit-low n 1, tt)))))))))

of-bits : (from count : ℕ) → AllByRecursion IsOfBits (map neighbourhood (range_with_len from count))
of-bits from zero = tt
of-bits from (suc count) = ((refl, inputs-bits from, All-from_recursion (λ s. s < 2) (neighbourhood from) (bits-of from)), of-bits (from + 1) count)

pub all-of-bits : (count : ℕ) → AllByRecursion IsOfBits (neighbourhoods count)
unfolding neighbourhoods
all-of-bits count = of-bits 0 count
