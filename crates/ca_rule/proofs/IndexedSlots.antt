-- Bits that are 0 tell that slots don't fit.
use Rattle.std.proofs.Common.{◌≡◌, ◌≢◌, ◌<◌, ◌≤◌, ◌+◌, ◌-◌, ◌*◌, ◌^◌, ◌%◌, ◌==◌, ℕ, zero, suc, List, [], ◌∷◌, Bool, true, false, ◌&&◌, map, zip, drop, slice_index, refl, ap, sym, ◌∙◌, None, length, get_or, subst, inl, inr, arith, bit_and, bit_or, nat_lt, eq-eqb, cond}
use Rattle.std.specs.Int.{bit_at}
use Rattle.std.specs.List.{list_all}
use Rattle.std.proofs.Math.Pow.{pow-lt}
use Rattle.std.proofs.Math.Nat.{mod-eq_of_lt}
use Rattle.std.proofs.lemmas.List.{drop-drop, drop_all, length-drop}
use Rattle.std.proofs.Math.Bool.{and-false}
use Rattle.std.proofs.lemmas.Bool.{cases_Bool, false≢true}
use Rattle.std.proofs.lemmas.Bool.Decides.{nat_tests}
use Rattle.std.proofs.lemmas.Nat.Bits.{bit_at_and, bit_at_or, bit_at_ones, bit_at-pow_same}
use Rattle.ca_rule.specs.declared.table.slot.Slot.{Slot}
use Rattle.ca_rule.specs.Prelude.{States, Transition, SlotCell, admits, fits}
use Rattle.ca_rule.specs.inner.TablePlaces.{slots_admit, begins_at_centre, outcome_at}
use Rattle.ca_rule.specs.inner.TransitionIndices.{first_inputs, inputs_at, TellsBefore, TellsSlot, IsIndex, FitNowhere, GivesNone}
use Rattle.ca_rule.proofs.SlotFits.{fits_halved}
use Rattle.ca_rule.proofs.SymmetryPlaces.{outcome-uncentred}

-- each slot admits its cell
abbrev pub each : List States → List SlotCell → Bool
each variables all = list_all (λ (t : SlotCell). admits variables t.0 t.1) all

each-drop : (variables : List States) (slots : List Slot) (i cell : ℕ) (cells : List ℕ) →
    each variables (zip (drop i slots) (cell ∷ cells)) ≡ (slots_admit variables cell (drop i slots) && each variables (zip (drop (suc i) slots) cells))
each-drop variables [] zero cell cells = refl
each-drop variables [] (suc i) cell cells = refl
each-drop variables (s ∷ ss) zero cell cells = refl
each-drop variables (s ∷ ss) (suc i) cell cells = each-drop variables ss i cell cells

next-slot : (i : ℕ) → suc i ≡ i + 1
next-slot i = omega arith

pub other-bit : (a b k : ℕ) → bit_at (bit_and a b) k ≡ 0 → (bit_at a k == 0) ≡ false → bit_at b k ≡ 0
other-bit a b k none some =
    let both_lists = bit_at_and a b k in
    let set : bit_at a k ≢ 0 = λ e. false≢true (sym some ∙ eq-eqb (bit_at a k) 0 e) in
    omega arith

-- of two numbers of bits, the first tells of this slot and the second of those after it
pub here-or-later : (variables : List States) (nine : List ℕ) (slots : List Slot) (slot place : ℕ) (places later : List ℕ) (a b k : ℕ) → places ≡ place ∷ later
    → bit_at (bit_and a b) k ≡ 0
    → (bit_at a k ≡ 0 → slots_admit variables (slice_index nine place) (drop slot slots) ≡ false)
    → (bit_at b k ≡ 0 → each variables (zip (drop (slot + 1) slots) (map (slice_index nine) later)) ≡ false)
    → each variables (zip (drop slot slots) (map (slice_index nine) places)) ≡ false
here-or-later variables nine slots slot place places later a b k e none here tail_after =
    let split = each-drop variables slots slot (slice_index nine place) (map (slice_index nine) later) in
    ap (λ l. each variables (zip (drop slot slots) (map (slice_index nine) l))) e ∙ split
    ∙ elim (cases_Bool (bit_at a k == 0)) [
      | inl z ↦ let zeros : bit_at a k ≡ 0 = grind (arith, nat_tests) in rw (here zeros) refl
      | inr z ↦ ap (λ n. slots_admit variables (slice_index nine place) (drop slot slots) && each variables (zip (drop n slots) (map (slice_index nine) later))) (next-slot slot)
          ∙ ap (λ b. slots_admit variables (slice_index nine place) (drop slot slots) && b) (tail_after (other-bit a b k none z)) ∙ and-false (slots_admit variables (slice_index nine place) (drop slot slots))
    ]

pub here : (variables : List States) (nine : List ℕ) (slots : List Slot) (slot place : ℕ) (places later : List ℕ) → places ≡ place ∷ later
    → slots_admit variables (slice_index nine place) (drop slot slots) ≡ false → each variables (zip (drop slot slots) (map (slice_index nine) places)) ≡ false
here variables nine slots slot place places later e none =
    ap (λ l. each variables (zip (drop slot slots) (map (slice_index nine) l))) e ∙ each-drop variables slots slot (slice_index nine place) (map (slice_index nine) later) ∙ rw none refl

-- what a row tells of a state
pub told-here : (variables : List States) (ts : List Transition) (rows held : List (List ℕ)) (slot : ℕ) (row : List ℕ) (state cell k : ℕ) → IsIndex variables ts rows → held ≡ rows
    → slot < length held → row ≡ get_or held slot [] → state ≡ cell → state < 256 → k < 64 → k < length ts → bit_at (slice_index row state) k ≡ 0 → slots_admit variables cell (drop slot (inputs_at ts k)) ≡ false
told-here variables ts rows held slot row state cell k index e within found same small few there zeros =
    ap (λ s. slots_admit variables s (drop slot (inputs_at ts k))) (sym same)
    ∙ index slot (subst (λ l. slot < length l) e within) state small k few there (ap (λ r. bit_at (slice_index r state) k) (sym (found ∙ ap (λ l. get_or l slot []) e)) ∙ zeros)

-- the transitions after the first that is left
pub next-left : (ts left later : List Transition) (t : Transition) (at : ℕ) → left ≡ drop at ts → left ≡ t ∷ later → later ≡ drop (at + 1) ts
next-left ts left later t at from first = ap (drop 1) (sym first ∙ from) ∙ drop-drop 1 at ts

-- no bit of all ones is 0
pub no-zero : (k : ℕ) → k < 64 → bit_at 18446744073709551615 k ≢ 0
no-zero k few none = let one : bit_at 18446744073709551615 k ≡ 1 = bit_at_ones 64 k few in let apart : zero ≡ suc zero = sym none ∙ one in cc

-- slots of which one doesn't admit its cell don't fit
pub unfit : (variables : List States) (all : List SlotCell) → each variables all ≡ false → fits variables all ≡ false
unfit variables all e = fits_halved variables all ∙ rw e refl

-- both of two numbers have the bit 0
pub first-bit : (a b k : ℕ) → bit_at (bit_or a b) k ≡ 0 → bit_at a k ≡ 0
first-bit a b k e = let both_lists = bit_at_or a b k in omega arith

pub second-bit : (a b k : ℕ) → bit_at (bit_or a b) k ≡ 0 → bit_at b k ≡ 0
second-bit a b k e = let both_lists = bit_at_or a b k in omega arith

-- a transition whose slots fit nowhere gives nothing
outcome-nowhere : (variables : List States) (nine : List ℕ) (t : Transition) (ps : List (List ℕ)) → FitNowhere variables nine t.inputs ps → outcome_at variables nine t ps ≡ None
outcome-nowhere variables nine t [] none = refl
outcome-nowhere variables nine t (p ∷ ps) none = rw none.0 (outcome-nowhere variables nine t ps none.1)

pub nowhere-first : (variables : List States) (nine : List ℕ) (ps : List (List ℕ)) (ts : List Transition) → FitNowhere variables nine (first_inputs ts) ps → GivesNone variables nine ps ts
nowhere-first variables nine ps [] none = refl
nowhere-first variables nine ps (t ∷ ts) none = outcome-nowhere variables nine t ps none

-- nor does one whose first slot doesn't admit the centre
not-first : (variables : List States) (cell : ℕ) (slots : List Slot) → each variables (zip slots (cell ∷ [])) ≡ false → slots_admit variables cell slots ≡ false
not-first variables cell [] e = e
not-first variables cell (s ∷ []) e = elim (cases_Bool (admits variables s cell)) [
  | inl a ↦ let k : true ≡ false = rw a at e in absurd (false≢true (sym k))
  | inr a ↦ a
]
not-first variables cell (s ∷ r ∷ rs) e = elim (cases_Bool (admits variables s cell)) [
  | inl a ↦ let k : true ≡ false = rw a at e in absurd (false≢true (sym k))
  | inr a ↦ a
]

pub uncentred-first : (variables : List States) (nine : List ℕ) (ps : List (List ℕ)) (ts : List Transition) → list_all begins_at_centre ps ≡ true
    → each variables (zip (first_inputs ts) (slice_index nine 4 ∷ [])) ≡ false → GivesNone variables nine ps ts
uncentred-first variables nine ps [] all none = refl
uncentred-first variables nine ps (t ∷ ts) all none = outcome-uncentred variables nine t ps all (not-first variables (slice_index nine 4) t.inputs none)

-- one more transition, with its bit set where its slot admits the state
bit-set : (variables : List States) (ts : List Transition) (slot state bits at : ℕ) → at < 64 → TellsBefore variables ts slot state bits at
    → TellsBefore variables ts slot state (bit_or bits (1 * 2 ^ at % 2 ^ 64)) (at + 1)
bit-set variables ts slot state bits at few told = λ k small there zeros.
    elim (cases_Bool (k == at)) [
      | inl e ↦ let same : k ≡ at = grind (arith, nat_tests) in
          let power : 2 ^ at < 2 ^ 64 = pow-lt few in
          let alone : 1 * 2 ^ at % 2 ^ 64 ≡ 2 ^ at = ap (λ n. n % 2 ^ 64) (one-times (2 ^ at)) ∙ mod-eq_of_lt power in
          let none : bit_at (2 ^ at) at ≡ 0 = ap (λ n. bit_at n at) (sym alone) ∙ ap (bit_at (1 * 2 ^ at % 2 ^ 64)) (sym same) ∙ second-bit bits (1 * 2 ^ at % 2 ^ 64) k zeros in
          let both_lists : zero ≡ suc zero = sym none ∙ bit_at-pow_same at in absurd (omega (arith, both_lists))
      | inr e ↦ let apart : k ≢ at = λ s. false≢true (sym e ∙ eq-eqb k at s) in
          told k (omega (arith, small, apart)) there (first-bit bits (1 * 2 ^ at % 2 ^ 64) k zeros)
    ]
  where
    one-times : (n : ℕ) → 1 * n ≡ n
    one-times n = omega arith

-- and with its bit not set where it doesn't
bit-left : (variables : List States) (ts left later : List Transition) (t : Transition) (slot state bits at : ℕ) → left ≡ drop at ts → left ≡ t ∷ later
    → slots_admit variables state (drop slot t.inputs) ≡ false → TellsBefore variables ts slot state bits at → TellsBefore variables ts slot state bits (at + 1)
bit-left variables ts left later t slot state bits at from first none told = λ k small there zeros.
    elim (cases_Bool (k == at)) [
      | inl e ↦ let same : k ≡ at = grind (arith, nat_tests) in
          ap (λ n. slots_admit variables state (drop slot (inputs_at ts n))) same ∙ ap (λ l. slots_admit variables state (drop slot (first_inputs l))) (sym from ∙ first) ∙ none
      | inr e ↦ let apart : k ≢ at = λ s. false≢true (sym e ∙ eq-eqb k at s) in told k (omega (arith, small, apart)) there zeros
    ]

-- so its bit tells of it
pub bit-told : (variables : List States) (ts left later : List Transition) (t : Transition) (slot state bits at : ℕ) (is_one : Bool) (bit : ℕ) → at < 64 → left ≡ drop at ts → left ≡ t ∷ later
    → is_one ≡ slots_admit variables state (drop slot t.inputs) → bit ≡ cond is_one (1 * 2 ^ at % 2 ^ 64) 0
    → TellsBefore variables ts slot state bits at → TellsBefore variables ts slot state (bit_or bits bit) (at + 1)
bit-told variables ts left later t slot state bits at true bit few from first admits one told =
    subst (λ b. TellsBefore variables ts slot state (bit_or bits b) (at + 1)) (sym one) (bit-set variables ts slot state bits at few told)
bit-told variables ts left later t slot state bits at false bit few from first admits one told = λ k small there zeros.
    bit-left variables ts left later t slot state bits at from first (sym admits) told k small there (first-bit bits bit k zeros)

-- where none are left, there are no more transitions
pub none-more : (ts left : List Transition) (at : ℕ) → left ≡ drop at ts → length left ≡ 0 → length ts ≤ at
none-more ts left at from none = let end : length ts - at ≡ 0 = sym (length-drop at ts) ∙ ap length (sym from) ∙ none in omega (arith, end)

pub tells-all : (variables : List States) (ts : List Transition) (slot state bits at : ℕ) → length ts ≤ at → TellsBefore variables ts slot state bits at → TellsSlot variables ts slot state bits
tells-all variables ts slot state bits at end told = λ k small there zeros. told k (omega (arith, end, there)) there zeros

-- past the last transition nothing is given
pub past-last : (variables : List States) (nine : List ℕ) (ps : List (List ℕ)) (ts : List Transition) (k : ℕ) → (k < length ts → GivesNone variables nine ps (drop k ts)) → GivesNone variables nine ps (drop k ts)
past-last variables nine ps ts k given =
    elim (cases_Bool (nat_lt k (length ts))) [
      | inl e ↦ given (grind (arith, nat_tests))
      | inr e ↦ let end : length ts ≤ k = grind (arith, nat_tests) in subst (GivesNone variables nine ps) (sym (drop_all k ts end)) refl
    ]
