-- One vector moves a live pattern at most.
use Rattle.std.proofs.Common.{◌≡◌, sym, ap₂, ◌∙◌, arith}
use Rattle.std.specs.Prelude.{ℤ, ◌+ℤ◌, ◌-ℤ◌}
use Rattle.std.proofs.lemmas.Int.{ints}
use Rattle.ca_plane.specs.Prelude.{Picture, cell, IsSame, shifted, IsLive}
use Rattle.ca_plane.proofs.Shifts.{cell-shifted}
use Rattle.ca_steps.proofs.Vectors.{no_vector}

-- ---- the vector of a return

-- where a picture shows the same moved by either vector, it shows what it does moved by their difference
by_difference : (p : Picture) (dx dy u v : ℤ) → IsSame (shifted p dx dy) (shifted p u v) → IsSame p (shifted p (u -ℤ dx) (v -ℤ dy))
by_difference p dx dy u v same = λ x y.
    let ax : x ≡ (x +ℤ dx) -ℤ dx = omega (arith, ints) in
    let ay : y ≡ (y +ℤ dy) -ℤ dy = omega (arith, ints) in
    let bx : (x +ℤ dx) -ℤ u ≡ x -ℤ (u -ℤ dx) = omega (arith, ints) in
    let by : (y +ℤ dy) -ℤ v ≡ y -ℤ (v -ℤ dy) = omega (arith, ints) in
    ap₂ (cell p) ax ay ∙ sym (cell-shifted p dx dy (x +ℤ dx) (y +ℤ dy)) ∙ same (x +ℤ dx) (y +ℤ dy)
    ∙ cell-shifted p u v (x +ℤ dx) (y +ℤ dy) ∙ ap₂ (cell p) bx by ∙ sym (cell-shifted p (u -ℤ dx) (v -ℤ dy) x y)

-- a live pattern moved by two vectors shows the same by one vector alone
pub one_vector : (p : Picture) (dx dy u v : ℤ) → IsLive p → IsSame (shifted p dx dy) (shifted p u v) → (dx ≡ u) × (dy ≡ v)
one_vector p dx dy u v live same =
    let none = no_vector p (u -ℤ dx) (v -ℤ dy) live (by_difference p dx dy u v same) in
    (omega (arith, ints, none.0), omega (arith, ints, none.1))
