-- Objects that are too large for any of their phases to fit into 40 by 40 cells.
use Rattle.std.specs.Prelude.{◌≡◌, ℕ, ◌+◌, ◌-◌, ◌*◌, ◌⊎◌, ℤ, pos, ◌+ℤ◌, ◌-ℤ◌, ◌≤ℤ◌, List}
use Rattle.ca_plane.specs.Prelude.{cells_after}
use Rattle.ca_quad.specs.declared.tree.WideBounds.{WideBounds}

-- after `period` generations the cells are back, moved by (dx, dy)
abbrev pub IsBackBy : (List ℕ → ℕ) → (ℤ → ℤ → ℕ) → (period : ℕ) → (dx dy : ℤ) → Type 0
IsBackBy next cells period dx dy = (x y : ℤ) → cells_after next cells period x y ≡ cells (x -ℤ dx) (y -ℤ dy)

-- the box has more columns than 40 and two for each generation of the period but one, or more rows
abbrev pub IsTooLarge : WideBounds → (period : ℕ) → Type 0
IsTooLarge box period = ((box.x0 +ℤ pos (40 + 2 * (period - 1))) ≤ℤ box.x1) ⊎ ((box.y0 +ℤ pos (40 + 2 * (period - 1))) ≤ℤ box.y1)
