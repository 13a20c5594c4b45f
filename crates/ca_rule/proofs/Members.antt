-- A set of states has a state exactly where its bit is set.
use Rattle.std.proofs.Common.{◌≡◌, ◌==◌, ℕ, zero, suc, ◌+◌, ◌*◌, ◌<◌, ◌≤◌, List, length, true, refl, ap, ◌∙◌, arith, inl, inr}
use Rattle.std.specs.List.{list_any, range_with_len}
use Rattle.std.proofs.Math.Bool.{and-true}
use Rattle.std.proofs.lemmas.Bool.{cases_Bool}
use Rattle.std.proofs.lemmas.Bool.Decides.{nat_tests}
use Rattle.std.proofs.lemmas.Map.Views.{any-filter_same}
use Rattle.ca_rule.specs.inner.TableStates.{is_in, states_in}

-- a number is among the numbers of its range
list_any-range : (state a n : ℕ) → a ≤ state → state < a + n → list_any (λ s. s == state) (range_with_len a n) ≡ true
list_any-range state a zero low high = absurd (omega arith)
list_any-range state a (suc n) low high =
    elim (cases_Bool (a == state)) [
      | inl t ↦ rw t refl
      | inr t ↦ let other : a + 1 ≤ state = grind (arith, nat_tests) in rw t (list_any-range state (a + 1) n other (omega arith))
    ]

pub list_any-states_in : (words : List ℕ) (state : ℕ) → state < 64 * length words → list_any (λ s. s == state) (states_in words) ≡ is_in words state
list_any-states_in words state h =
    any-filter_same (λ s. s == state) (is_in words) (is_in words state) (λ s e. let same : s ≡ state = grind (arith, nat_tests) in ap (is_in words) same) (range_with_len 0 (64 * length words))
    ∙ rw (list_any-range state 0 (64 * length words) (omega arith) (omega arith)) (and-true (is_in words state))
