-- Shifts and coordinates, as they are read again.
use Rattle.std.proofs.Common.{◌≡◌, refl, sym, subst, arith, w64, to_z, of_z}
use Rattle.std.specs.Int.{w128}
use Rattle.std.specs.Prelude.{ℤ, pos}
use Rattle.std.proofs.lemmas.Int.{ints}
use Rattle.ca_plane.specs.Prelude.{Picture, cell, shifted}
use Rattle.ca_text.specs.Prelude.{IsShift}
use Rattle.ca_pattern.specs.Prelude.{IsBroad, IsWide}
use Rattle.ca_text.proofs.Shifts.{unmoved, shift_reads}
use Rattle.ca_pattern.proofs.Times.{wide_reads, broad_wide}

pub cell_shifted_0 : (p : Picture) (x y : ℤ) → cell (shifted p (pos 0) (pos 0)) x y ≡ cell p x y
cell_shifted_0 p x y = unmoved p (pos 0) (pos 0) x y refl refl

pub shift_again : (d : ℤ) → IsShift d → IsShift (to_z w64 (of_z w64 d))
shift_again d shift = subst IsShift (sym (shift_reads d shift)) shift

pub wide_again : (n : ℤ) → IsWide n → IsWide (to_z w128 (of_z w128 n))
wide_again n wide = subst IsWide (sym (wide_reads n wide)) wide

pub broad_again : (n : ℤ) → IsBroad n → IsBroad (to_z w128 (of_z w128 n))
broad_again n broad = subst IsBroad (sym (wide_reads n (broad_wide n broad))) broad

-- as a shift is
pub shift_broad : (d : ℤ) → IsShift d → IsBroad d
shift_broad d shift = (omega (arith, ints, shift), omega (arith, ints, shift))
