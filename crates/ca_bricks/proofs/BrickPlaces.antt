-- Where bricks lie.
use Rattle.std.proofs.Common.{◌≡◌, ℕ, zero, suc, ◌+◌, ◌-◌, ◌*◌, ◌/◌, ◌%◌, ◌<◌, ◌≤◌, inl, inr, List, length, sym, ap, ap₂, ◌∙◌, arith}
use Rattle.std.specs.Prelude.{ℤ, pos, ◌+ℤ◌, ◌-ℤ◌}
use Rattle.std.specs.Int.{bit_at}
use Rattle.std.proofs.lemmas.Int.{ints}
use Rattle.std.proofs.lemmas.Nat.{div-add-mod', mod_below}
use Rattle.std.proofs.Math.Nat.{mul-add-div_right, mod-eq-sub-div-mul, div-eq_of_lt}
use Rattle.ca_plane.proofs.Numbers.{below_or_not}
use Rattle.ca_bricks.specs.Prelude.{column_at, BricksShow, brick_x, brick_y}
use Rattle.ca_bricks.proofs.BrickRounds.{column_at-middle, column_at-south}

-- what is q times d and less than d more
pub quotient : (d q r n : ℕ) → r < d → n ≡ q * d + r → n / d ≡ q
quotient d q r n low e =
    let some : 0 < d = omega arith in
    let none : r / d ≡ 0 = div-eq_of_lt low in
    let sum : q + r / d ≡ q = omega (arith, none) in
    ap (λ m. m / d) e ∙ mul-add-div_right some q r ∙ sum

pub remainder : (d q r n : ℕ) → r < d → n ≡ q * d + r → n % d ≡ r
remainder d q r n low e =
    let q-is : n / d * d ≡ q * d = ap (λ m. m * d) (quotient d q r n low e) in
    mod-eq-sub-div-mul n d ∙ omega (arith, e, q-is)

-- the brick in the east
pub east_of : (d t : ℕ) → suc (t % d) < d → ((t + 1) / d ≡ t / d) × ((t + 1) % d ≡ suc (t % d))
east_of d t low =
    let e : t + 1 ≡ t / d * d + suc (t % d) = omega (arith, div-add-mod' t d) in
    (quotient d (t / d) (suc (t % d)) (t + 1) low e, remainder d (t / d) (suc (t % d)) (t + 1) low e)

-- the one in the west
pub west_of : (d t : ℕ) → 0 < d → 1 ≤ t % d → ((t - 1) / d ≡ t / d) × ((t - 1) % d ≡ t % d - 1)
west_of d t some h =
    let low : t % d - 1 < d = omega (arith, mod_below t d some) in
    let e : t - 1 ≡ t / d * d + (t % d - 1) = omega (arith, div-add-mod' t d, h) in
    (quotient d (t / d) (t % d - 1) (t - 1) low e, remainder d (t / d) (t % d - 1) (t - 1) low e)

-- the one in the south
pub south_of : (d t : ℕ) → 0 < d → ((t + d) / d ≡ suc (t / d)) × ((t + d) % d ≡ t % d)
south_of d t some =
    let low : t % d < d = mod_below t d some in
    let more : suc (t / d) * d ≡ t / d * d + d = omega arith in
    let e : t + d ≡ suc (t / d) * d + t % d = omega (arith, div-add-mod' t d, more) in
    (quotient d (suc (t / d)) (t % d) (t + d) low e, remainder d (suc (t / d)) (t % d) (t + d) low e)

-- the one in the north
pub north_of : (d t : ℕ) → 0 < d → d ≤ t → (suc ((t - d) / d) ≡ t / d) × ((t - d) % d ≡ t % d)
north_of d t some h =
    let e : t - d + d ≡ t = omega arith in
    let south = south_of d (t - d) some in
    (sym south.0 ∙ ap (λ n. n / d) e, sym south.1 ∙ ap (λ n. n % d) e)

-- a column of a brick that has others in the north and in the south shows the plane, from one row further north onwards
pub column_shows : (across : ℕ) (bricks : List (List ℕ)) (p : ℤ → ℤ → ℕ) (a b : ℤ) (t : ℕ) → 0 < across → across ≤ t → t + across < length bricks → BricksShow across bricks p a b
    → (x y : ℕ) → x < 64 → y < 18 → bit_at (column_at across bricks t y) x ≡ p (brick_x across a t +ℤ pos x) ((brick_y across b t -ℤ pos 1) +ℤ pos y)
column_shows across bricks p a b t some north south shows x zero h k =
    let n = north_of across t some north in
    let xs : brick_x across a (t - across) +ℤ pos x ≡ brick_x across a t +ℤ pos x = ap (λ m. (a +ℤ pos (64 * m)) +ℤ pos x) n.1 in
    let ys : brick_y across b (t - across) +ℤ pos 15 ≡ (brick_y across b t -ℤ pos 1) +ℤ pos 0 = omega (arith, ints, n.0) in
    (shows (t - across) (omega arith)).looks x 15 h (omega arith) ∙ ap₂ p xs ys
column_shows across bricks p a b t some north south shows x (suc y) h k = elim (below_or_not y 16) [
  | inl near ↦
      let ys : brick_y across b t +ℤ pos y ≡ (brick_y across b t -ℤ pos 1) +ℤ pos (suc y) = omega (arith, ints) in
      ap (λ w. bit_at w x) (column_at-middle across bricks t y near)
      ∙ (shows t (omega arith)).looks x y h near ∙ ap (p (brick_x across a t +ℤ pos x)) ys
  | inr far ↦
      let s = south_of across t some in
      let xs : brick_x across a (t + across) +ℤ pos x ≡ brick_x across a t +ℤ pos x = ap (λ m. (a +ℤ pos (64 * m)) +ℤ pos x) s.1 in
      let ys : brick_y across b (t + across) +ℤ pos 0 ≡ (brick_y across b t -ℤ pos 1) +ℤ pos (suc y) = omega (arith, ints, s.0, far, k) in
      ap (λ w. bit_at w x) (column_at-south across bricks t y far)
      ∙ (shows (t + across) (omega arith)).looks x 0 h (omega arith) ∙ ap₂ p xs ys
]
