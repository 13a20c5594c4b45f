-- Trees that are moved, and why one isn't.
use Rattle.std.specs.Prelude.{ℕ, ℤ, ◌-ℤ◌}
use Rattle.ca_plane.specs.declared.memory.MoveFault.{MoveFault}
use Rattle.ca_plane.specs.declared.memory.MoveFault.TheVariants.{Memory, Range}
use Rattle.ca_quad.specs.Expanded.{HasCellOutsidePlane}

-- the cells moved by (dx, dy), to the right and downward
abbrev pub shifted_cells : (ℤ → ℤ → ℕ) → ℤ → ℤ → ℤ → ℤ → ℕ
shifted_cells cells dx dy x y = cells (x -ℤ dx) (y -ℤ dy)

-- why a tree isn't moved; memory may run out at any time
abbrev pub IsShiftRefused : (ℤ → ℤ → ℕ) → MoveFault → Type 0
IsShiftRefused moved Memory = Unit {0}
IsShiftRefused moved Range = HasCellOutsidePlane moved
