-- Coordinates and vectors, as they are read.
use Rattle.std.proofs.Common.{◌≡◌, ℕ, sym, ap₂, ◌∙◌, arith, w64, to_z, of_z}
use Rattle.std.specs.Int.{w128}
use Rattle.std.specs.Prelude.{ℤ, pos, ◌-ℤ◌, FitsSigned}
use Rattle.std.proofs.lemmas.Int.{ints, to_z-of_z}
use Rattle.ca_quad.specs.Prelude.{shifted_cells}
use Rattle.ca_pattern.specs.Prelude.{IsBroad, IsWide}

-- cells that are moved by (0, 0)
pub moved_nowhere : (p : ℤ → ℤ → ℕ) (dx dy x y : ℤ) → dx ≡ pos 0 → dy ≡ pos 0 → p x y ≡ shifted_cells p dx dy x y
moved_nowhere p dx dy x y e f =
    let a : x ≡ x -ℤ dx = omega (arith, ints) in
    let b : y ≡ y -ℤ dy = omega (arith, ints) in
    ap₂ p a b

-- a coordinate in the square of a plane reads so as an `i128`
pub wide_reads : (n : ℤ) → IsWide n → to_z w128 (of_z w128 n) ≡ n
wide_reads n wide = let fits : FitsSigned w128 n = omega (arith, ints, wide) in to_z-of_z w128 n fits

-- so does one at most half as far from 0,
pub broad_wide : (n : ℤ) → IsBroad n → IsWide n
broad_wide n broad = (omega (arith, ints, broad), omega (arith, ints, broad))

-- and the distance between them as an `i64`
pub distance_reads : (from to d result : ℤ) → IsBroad from → IsWide to → result ≡ to_z w128 (of_z w128 to) -ℤ to_z w128 (of_z w128 from) → d ≡ to -ℤ from → d ≡ to_z w64 (of_z w64 result)
distance_reads from to d result broad wide is e =
    let far : result ≡ to -ℤ from = is ∙ ap₂ (λ a b. a -ℤ b) (wide_reads to wide) (wide_reads from (broad_wide from broad)) in
    let fits : FitsSigned w64 result = omega (arith, ints, far, broad, wide) in
    e ∙ sym far ∙ sym (to_z-of_z w64 result fits)
