-- Letters and greys tell states apart.
use Rattle.std.proofs.Common.{◌≡◌, ℕ, zero, suc, ◌+◌, ◌-◌, ◌*◌, ◌/◌, ◌<◌, ◌≤◌, ◌⊎◌, min, max, inl, inr, refl, sym, ap, ◌∙◌, arith}
use Rattle.std.proofs.lemmas.Bool.Decides.{nat_tests}
use Rattle.std.proofs.lemmas.Nat.{le-div, div_below}
use Rattle.std.proofs.Math.Nat.{div-mul-le_self, suc-mul}
use Rattle.ca_plane.proofs.Numbers.{below_or_not}
use Rattle.ca_draw.specs.Prelude.{state_mark, state_grey, mark_letter, mark_grey}

-- the letters of three kinds of states
low_letter : (a : ℕ) → suc a < 25 → mark_letter (state_mark (suc a)) ≡ 64 + suc a
low_letter a h = grind (arith, nat_tests)

high_letter : (a : ℕ) → 25 ≤ suc a → suc a < 49 → mark_letter (state_mark (suc a)) ≡ 72 + suc a
high_letter a h i = grind (arith, nat_tests)

letter_cases : (a : ℕ) → a < 49 → ((a ≡ 0) × (mark_letter (state_mark a) ≡ 46)) ⊎ (((1 ≤ a) × (a < 25) × (mark_letter (state_mark a) ≡ 64 + a)) ⊎ ((25 ≤ a) × (mark_letter (state_mark a) ≡ 72 + a)))
letter_cases zero h = inl (refl, refl)
letter_cases (suc a) h =
    elim (below_or_not (suc a) 25) [
      | inl i ↦ inr (inl (omega arith, i, low_letter a i))
      | inr i ↦ inr (inr (i, high_letter a i h))
    ]

pub letters_apart : (a b : ℕ) → a < 49 → b < 49 → mark_letter (state_mark a) ≡ mark_letter (state_mark b) → a ≡ b
letters_apart a b h i e =
    elim (letter_cases a h) [
      | inl p ↦ elim (letter_cases b i) [ inl q ↦ omega arith | inr q ↦ elim q [ inl r ↦ omega arith | inr r ↦ omega arith ] ]
      | inr p ↦ elim p [
        | inl s ↦ elim (letter_cases b i) [ inl q ↦ omega arith | inr q ↦ elim q [ inl r ↦ omega arith | inr r ↦ omega arith ] ]
        | inr s ↦ elim (letter_cases b i) [ inl q ↦ omega arith | inr q ↦ elim q [ inl r ↦ omega arith | inr r ↦ omega arith ] ]
      ]
    ]

grey_suc : (states a : ℕ) → mark_grey states (state_mark (suc a)) ≡ state_grey states (suc a)
grey_suc states a = grind (arith, nat_tests)

-- the greys of a rule's states
module _ (states : ℕ) (least : 3 ≤ states) (most : states ≤ 256) where
  abbrev steps : ℕ
  steps = max states 2 - 1

  is_low : (a : ℕ) → suc a < states → 255 * a / steps < 255
  is_low a h = div_below (255 * a) steps 255 (omega arith) (omega arith)

  grey_is : (a : ℕ) → suc a < states → mark_grey states (state_mark (suc a)) ≡ 255 * a / steps
  grey_is a h =
      let low = is_low a h in
      let e : suc a - 1 ≡ a = omega arith in
      let f : state_grey states (suc a) ≡ min (255 * a / steps) 254 = ap (λ n. min (255 * n / steps) 254) e in
      grey_suc states a ∙ (f ∙ omega arith)

  rises : (a b : ℕ) → a < b → 255 * a / steps < 255 * b / steps
  rises a b h =
      let q = 255 * a / steps in
      let low : q * steps ≤ 255 * a = div-mul-le_self (255 * a) steps in
      let e : suc q * steps ≡ q * steps + steps = suc-mul q steps in
      let f : suc q ≤ 255 * b / steps = le-div (suc q) (255 * b) steps (omega arith) (omega arith) in
      omega arith

  pub greys_apart : (a b : ℕ) → a < states → b < states → mark_grey states (state_mark a) ≡ mark_grey states (state_mark b) → a ≡ b
  greys_apart zero zero h i e = refl
  greys_apart zero (suc b) h i e =
      let low = is_low b i in
      let f : 255 ≡ 255 * b / steps = e ∙ grey_is b i in
      absurd (omega arith)
  greys_apart (suc a) zero h i e =
      let low = is_low a h in
      let f : 255 * a / steps ≡ 255 = sym (grey_is a h) ∙ e in
      absurd (omega arith)
  greys_apart (suc a) (suc b) h i e =
      let f : 255 * a / steps ≡ 255 * b / steps = sym (grey_is a h) ∙ (e ∙ grey_is b i) in
      elim (below_or_not a b) [
        | inl j ↦ let r = rises a b j in absurd (omega arith)
        | inr j ↦ elim (below_or_not b a) [
          | inl k ↦ let r = rises b a k in absurd (omega arith)
          | inr k ↦ omega arith
        ]
      ]
