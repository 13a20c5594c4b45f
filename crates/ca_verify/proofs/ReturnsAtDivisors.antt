-- A pattern is back at no time before one at which it is, where it isn't back at a proper divisor of that.
use Rattle.std.proofs.Common.{◌≡◌, ◌≢◌, ℕ, zero, suc, ◌+◌, ◌*◌, ◌%◌, ◌/◌, ◌≤◌, ◌<◌, List, sym, ap, subst, ◌∙◌, inl, inr, arith}
use Rattle.std.specs.Prelude.{ℤ, pos, ◌-ℤ◌, ◌*ℤ◌}
use Rattle.std.specs.Int.{◌∣◌}
use Rattle.std.proofs.Math.Nat.{div-add-mod, dvd_of_mod-eq-zero, mod-lt, suc-mul, zero-mul, mul_comm}
use Rattle.std.proofs.lemmas.Bool.{cases_eq}
use Rattle.ca_plane.specs.Prelude.{Picture, cell, shifted, after, IsAfter}
use Rattle.ca_plane.proofs.After.{after_again, after_near}
use Rattle.ca_steps.proofs.Returns.{back_times, moved_between}
use Rattle.ca_text.specs.Prelude.{IsChanged, IsNowhere}
use Rattle.ca_pattern.proofs.Searches.{search_within}

-- n is `n / k` times k, and a rest that is less than k
split : (n k : ℕ) → 1 ≤ k → (n ≡ (n / k) * k + n % k) × (n % k < k)
split n k some = (sym (div-add-mod n k) ∙ ap (λ a. a + n % k) (mul_comm k (n / k)), mod-lt n some)

module _ (next : List ℕ → ℕ) (p : Picture) where
  -- where m + k generations don't show at (x, y) what k generations show, m generations change some cell
  differ_before : (m k : ℕ) (x y : ℤ) → after next p (m + k) x y ≢ after next p k x y → (u : ℤ) × (v : ℤ) × (after next p m u v ≢ cell p u v)
  differ_before m k x y other =
      elim (search_within (after next p m) (cell p) k x y) [
        | inl same ↦ absurd (other (sym (after_again next (cell p) m k x y) ∙ after_near next (after next p m) (cell p) k x y same))
        | inr found ↦ found
      ]

  -- a pattern that has changed after q times k generations has changed after k
  pub changed_once : (q k : ℕ) (x y : ℤ) → after next p (q * k) x y ≢ cell p x y → IsChanged next p k
  changed_once zero k x y other = absurd (other (ap (λ n. after next p n x y) (zero-mul k)))
  changed_once (suc q) k x y other =
      elim (cases_eq (after next p (q * k) x y) (cell p x y)) [
        | inr before ↦ changed_once q k x y before
        | inl same ↦
            let sum : suc q * k ≡ k + q * k = rw (suc-mul q k) (omega arith) in
            differ_before k (q * k) x y (λ e. other (ap (λ n. after next p n x y) sum ∙ e ∙ same))
      ]

  -- where a pattern is back after n = m + k generations, a cell that k generations change isn't after m + k what it is after k
  unlike_rest : (n m k : ℕ) → IsAfter next p n p → n ≡ m + k → (x y : ℤ) → after next p k x y ≢ cell p x y → after next p (m + k) x y ≢ after next p k x y
  unlike_rest n m k back sum x y other = λ e. other (sym e ∙ ap (λ t. after next p t x y) (sym sum) ∙ back x y)

  -- in its place: a pattern that is back after n generations, and at no proper divisor of n, has changed at each time before n
  pub changed_before : (n : ℕ) → IsAfter next p n p → ((d : ℕ) → 1 ≤ d → d < n → d ∣ n → IsChanged next p d) → (limit k : ℕ) → k ≤ limit → 1 ≤ k → k < n → IsChanged next p k
  changed_before n back tested zero k within some less = absurd (omega (arith, within, some))
  changed_before n back tested (suc limit) k within some less =
      let parts = split n k some in
      elim (cases_eq (n % k) 0) [
        | inl none ↦ tested k some less (dvd_of_mod-eq-zero k none)
        | inr rest ↦
            let at = changed_before n back tested limit (n % k) (omega (arith, parts.1, within)) (omega (arith, rest)) (omega (arith, parts.1, less)) in
            let found = differ_before ((n / k) * k) (n % k) at.0 at.1 (unlike_rest n ((n / k) * k) (n % k) back parts.0 at.0 at.1 at.2) in
            changed_once (n / k) k found.0 found.1 found.2
      ]

  -- by any vector
  pub nowhere_before : (n : ℕ) (u v : ℤ) → IsAfter next p n (shifted p u v) → ((d : ℕ) → 1 ≤ d → d < n → d ∣ n → IsNowhere next p d)
      → (limit k : ℕ) → k ≤ limit → 1 ≤ k → k < n → IsNowhere next p k
  nowhere_before n u v back tested zero k within some less = absurd (omega (arith, within, some))
  nowhere_before n u v back tested (suc limit) k within some less = λ dx dy again.
      let parts = split n k some in
      elim (cases_eq (n % k) 0) [
        | inl none ↦ tested k some less (dvd_of_mod-eq-zero k none) dx dy again
        | inr rest ↦
            nowhere_before n u v back tested limit (n % k) (omega (arith, parts.1, within)) (omega (arith, rest)) (omega (arith, parts.1, less))
            (u -ℤ (pos (n / k) *ℤ dx)) (v -ℤ (pos (n / k) *ℤ dy))
            (moved_between next p ((n / k) * k) (n % k) (pos (n / k) *ℤ dx) (pos (n / k) *ℤ dy) u v (back_times next p k (n / k) dx dy again) (subst (λ m. IsAfter next p m (shifted p u v)) parts.0 back))
      ]
