-- Patterns in range: a shift moves no cell out of a plane's square, and their corners are shifts.
use Rattle.std.proofs.Common.{ℕ, arith}
use Rattle.std.specs.Prelude.{ℤ, ◌-ℤ◌}
use Rattle.std.proofs.lemmas.Int.{ints}
use Rattle.ca_quad.specs.declared.tree.WideBounds.{WideBounds}
use Rattle.ca_quad.specs.Boxes as wide
use Rattle.ca_quad.specs.Prelude.{HasCellOutsidePlane, shifted_cells}
use Rattle.ca_macro.specs.Prelude.{AreInRange}
use Rattle.ca_plane.specs.Prelude.{IsInRange}
use Rattle.ca_text.specs.Prelude.{IsShift}

-- no cell in range leaves the square of a plane by a shift
pub leaves_none : (p : ℤ → ℤ → ℕ) (dx dy : ℤ) → AreInRange p → IsShift dx → IsShift dy → HasCellOutsidePlane (shifted_cells p dx dy) → ⊥
leaves_none p dx dy range across down (x, y, live, out) =
    let here = range (x -ℤ dx) (y -ℤ dy) live in
    out (omega (arith, ints, here, across, down), omega (arith, ints, here, across, down), omega (arith, ints, here, across, down), omega (arith, ints, here, across, down))

-- the corner of a smallest box lies where the live cells do: in range,
corner_range : (p : ℤ → ℤ → ℕ) (box : WideBounds) → wide.IsLeastWideBox p box → AreInRange p → IsInRange (record { y = box.y0; x = box.x0 })
corner_range p box least range =
    let left = range box.x0 least.left.0 least.left.1 in
    let top = range least.top.0 box.y0 least.top.1 in
    (left.0, left.1, top.2, top.3)

-- so its coordinates are those of a shift
pub corner_shift : (p : ℤ → ℤ → ℕ) (box : WideBounds) → wide.IsLeastWideBox p box → AreInRange p → IsShift box.x0 × IsShift box.y0
corner_shift p box least range =
    let here = corner_range p box least range in
    ((omega (arith, ints, here), omega (arith, ints, here)), (omega (arith, ints, here), omega (arith, ints, here)))
