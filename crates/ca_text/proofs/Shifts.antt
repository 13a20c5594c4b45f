-- Pictures that are moved by (0, 0), and the shifts of claims.
use Rattle.std.proofs.Common.{◌≡◌, ap₂, ◌∙◌, arith, w64, to_z, of_z}
use Rattle.std.specs.Prelude.{ℤ, pos, ◌-ℤ◌, FitsSigned}
use Rattle.std.proofs.lemmas.Int.{ints, to_z-of_z}
use Rattle.ca_plane.specs.Prelude.{Picture, cell, shifted}
use Rattle.ca_plane.proofs.Shifts.{cell-shifted}
use Rattle.ca_text.specs.Prelude.{IsShift}

-- a picture that is moved by (0, 0) shows what it showed
pub unmoved : (p : Picture) (dx dy x y : ℤ) → dx ≡ pos 0 → dy ≡ pos 0 → cell (shifted p dx dy) x y ≡ cell p x y
unmoved p dx dy x y e f =
    let a : x -ℤ dx ≡ x = omega (arith, ints) in
    let b : y -ℤ dy ≡ y = omega (arith, ints) in
    cell-shifted p dx dy x y ∙ ap₂ (cell p) a b

-- a shift reads so as an `i64`
pub shift_reads : (d : ℤ) → IsShift d → to_z w64 (of_z w64 d) ≡ d
shift_reads d shift = let fits : FitsSigned w64 d = omega (arith, ints, shift) in to_z-of_z w64 d fits
