-- Transitions whose bits are 0 are passed over.
use Rattle.std.proofs.Common.{◌≡◌, ◌≢◌, ◌<◌, ◌≤◌, ◌+◌, ◌*◌, ◌^◌, ◌%◌, ◌==◌, ℕ, zero, suc, List, [], ◌∷◌, ◌++◌, drop, length, get_or, refl, ap, sym, subst, ◌∙◌, Some, None, unwrap_or, inl, inr, arith, bit_and, w64, eq-eqb}
use Rattle.std.specs.Int.{bit_at, bit_not}
use Rattle.std.proofs.lemmas.Bool.{cases_Bool, false≢true}
use Rattle.std.proofs.lemmas.Bool.Decides.{nat_tests}
use Rattle.std.proofs.lemmas.List.{drop-drop, drop_all, at_drop_more}
use Rattle.std.proofs.lemmas.Nat.{and_le_l}
use Rattle.std.proofs.lemmas.Nat.Bits.{bit_at-zero, bit_at_clear_same, bit_at_clear_other}
use Rattle.ca_rule.specs.Prelude.{States, Transition}
use Rattle.ca_rule.specs.inner.TablePlaces.{outcome_at, next_at}
use Rattle.ca_rule.specs.inner.TransitionIndices.{GivesNone, PassesOver, IsIndex, AreIndices}

module _ (variables : List States) (nine : List ℕ) (ps : List (List ℕ)) where
  -- where the first n transitions give nothing, the state lies with the others
  skipped : (ts : List Transition) (n : ℕ) → ((k : ℕ) → k < n → GivesNone variables nine ps (drop k ts)) → next_at variables ps nine ts ≡ next_at variables ps nine (drop n ts)
  skipped ts zero none = refl
  skipped [] (suc n) none = refl
  skipped (t ∷ ts) (suc n) none =
      ap (λ o. unwrap_or o (next_at variables ps nine ts)) (none 0 (omega arith)) ∙ skipped ts n (λ k few. none (suc k) (omega arith))

  -- so it is for all 64 where all bits are 0
  pub none-left : (ts : List Transition) (bits : ℕ) → bits ≡ 0 → PassesOver variables nine ps ts bits → next_at variables ps nine ts ≡ next_at variables ps nine (drop 64 ts)
  none-left ts bits e over = skipped ts 64 (λ k few. over k few (ap (λ n. bit_at n k) e ∙ bit_at-zero k))

  -- and for those before the lowest bit
  pub next-lowest : (ts : List Transition) (bits at : ℕ) → at < 64 → ((i : ℕ) → i < at → bit_at bits i ≡ 0) → PassesOver variables nine ps ts bits
      → next_at variables ps nine ts ≡ next_at variables ps nine (drop at ts)
  next-lowest ts bits at few lower over = skipped ts at (λ k below. over k (omega arith) (lower k below))

  pub past-end : (ts : List Transition) (at : ℕ) → length ts ≤ at → at < 64 → next_at variables ps nine (drop at ts) ≡ next_at variables ps nine (drop 64 ts)
  past-end ts at end few = ap (next_at variables ps nine) (drop_all at ts end) ∙ sym (ap (next_at variables ps nine) (drop_all 64 ts (omega arith)))

  -- the transition there decides, where it gives something
  pub decides : (ts : List Transition) (at : ℕ) (t : Transition) (state : ℕ) → at < length ts → t ≡ get_or ts at t → outcome_at variables nine t ps ≡ Some state
      → next_at variables ps nine (drop at ts) ≡ state
  decides ts at t state within found some =
      ap (next_at variables ps nine) (at_drop_more (λ l. l) ts at t within) ∙ ap (λ x. next_at variables ps nine (x ∷ drop (at + 1) ts)) (sym found)
      ∙ ap (λ o. unwrap_or o (next_at variables ps nine (drop (at + 1) ts))) some

  -- and else its bit may be cleared
  pub cleared-over : (ts : List Transition) (bits at : ℕ) (t : Transition) → at < 64 → at < length ts → t ≡ get_or ts at t → outcome_at variables nine t ps ≡ None
      → PassesOver variables nine ps ts bits → PassesOver variables nine ps ts (bit_and bits (bit_not w64 (1 * 2 ^ at % 2 ^ 64)))
  cleared-over ts bits at t few within found none over = λ k small zeros.
      let first : drop at ts ≡ t ∷ drop (at + 1) ts = at_drop_more (λ l. l) ts at t within ∙ ap (λ x. x ∷ drop (at + 1) ts) (sym found) in
      let here : GivesNone variables nine ps (drop at ts) = subst (GivesNone variables nine ps) (sym first) none in
      elim (cases_Bool (k == at)) [
        | inl e ↦ let same : k ≡ at = grind (arith, nat_tests) in subst (λ n. GivesNone variables nine ps (drop n ts)) (sym same) here
        | inr e ↦ let apart : k ≢ at = λ s. false≢true (sym e ∙ eq-eqb k at s) in
            over k small (sym (bit_at_clear_other w64 bits at few k small apart) ∙ zeros)
      ]

-- a number is less once a bit is cleared
pub cleared-less : (bits at : ℕ) → at < 64 → bit_at bits at ≡ 1 → bit_and bits (bit_not w64 (1 * 2 ^ at % 2 ^ 64)) < bits
cleared-less bits at few set =
    let most = and_le_l bits (bit_not w64 (1 * 2 ^ at % 2 ^ 64)) in
    let apart : bit_and bits (bit_not w64 (1 * 2 ^ at % 2 ^ 64)) ≢ bits = λ e.
    (let same : zero ≡ suc zero = sym (bit_at_clear_same w64 bits at few) ∙ ap (λ n. bit_at n at) e ∙ set in cc) in
    omega arith

-- one more index
one-more : (n : ℕ) → 64 + 64 * n ≡ 64 * suc n
one-more n = omega arith

pub indices-push : (variables : List States) (ts : List Transition) (indices : List (List (List ℕ))) (rows : List (List ℕ)) → AreIndices variables ts indices
    → IsIndex variables (drop (64 * length indices) ts) rows → AreIndices variables ts (indices ++ rows ∷ [])
indices-push variables ts [] rows all one = (one, refl)
indices-push variables ts (s ∷ ss) rows all one =
    let there : drop (64 * length ss) (drop 64 ts) ≡ drop (64 * suc (length ss)) ts = drop-drop (64 * length ss) 64 ts ∙ ap (λ n. drop n ts) (one-more (length ss)) in
    (all.0, indices-push variables (drop 64 ts) ss rows all.1 (subst (λ l. IsIndex variables l rows) (sym there) one))

pub next-64 : (ts left : List Transition) (n m : ℕ) → m ≡ n + 1 → left ≡ drop (64 * n) ts → drop 64 left ≡ drop (64 * m) ts
next-64 ts left n m e from = ap (drop 64) from ∙ drop-drop 64 (64 * n) ts ∙ ap (λ k. drop k ts) (omega arith)

pub one-longer : (indices : List (List (List ℕ))) (rows : List (List ℕ)) → length (indices ++ rows ∷ []) ≡ length indices + 1
one-longer [] rows = refl
one-longer (s ∷ ss) rows = let more = one-longer ss rows in omega arith
