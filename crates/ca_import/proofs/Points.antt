-- Points that two words write.
use Rattle.std.proofs.Common.{◌≡◌, ℕ, ◌^◌, ℤ, pos, neg_ℤ, negsuc, ◌≤ℤ◌, ◌<ℤ◌, List, sym, subst, arith}
use Rattle.std.proofs.lemmas.Int.{ints}
use Rattle.ca_plane.specs.declared.point.Point.{Point}
use Rattle.ca_plane.specs.Prelude.{IsInteger, nearest_i64, range, IsInRange}
use Rattle.ca_import.specs.inner.Lines.{WritePoint}

-- and so is one that is in range itself
same_from_number : (n i : ℤ) → i ≡ nearest_i64 n → neg_ℤ (pos (2 ^ 60)) ≤ℤ n → n <ℤ pos (2 ^ 60) → i ≡ n
same_from_number (pos v) i e low high = omega (arith, ints, e, low, high)
same_from_number (negsuc v) i e low high = omega (arith, ints, e, low, high)

module _ (x y : List ℕ) (a b : ℤ) (at : Point) (x_is : IsInteger x a) (y_is : IsInteger y b) (near_x : at.x ≡ nearest_i64 a) (near_y : at.y ≡ nearest_i64 b) where
  -- one that is out of range is written, if it is not
  pub writes_far_point : (IsInRange at → ⊥) → (p : Point) × WritePoint x y p × (IsInRange p → ⊥)
  writes_far_point out = (
    record { y = b; x = a },
    record { x_is = x_is; y_is = y_is },
    λ within.
        let same_x = same_from_number a at.x near_x within.0 within.1 in
        let same_y = same_from_number b at.y near_y within.2 within.3 in
        out (subst (λ n. neg_ℤ (pos range) ≤ℤ n) (sym same_x) within.0, subst (λ n. n <ℤ pos range) (sym same_x) within.1, subst (λ n. neg_ℤ (pos range) ≤ℤ n) (sym same_y) within.2, subst (λ n. n <ℤ pos range) (sym same_y) within.3),
  )
