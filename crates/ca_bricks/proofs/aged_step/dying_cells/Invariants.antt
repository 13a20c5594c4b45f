use Rattle.std.proofs.Common.{◌≡◌, ℕ, ◌<◌, min, take}
use Rattle.ca_plane.specs.Prelude.{row_cells}
use Rattle.ca_bricks.specs.Prelude.{number_at}
use Rattle.ca_bricks.proofs.aged_step.dying_cells.Given as goal

-- the cells whose digits so far aren't all 0
abbrev pub invariant-digits : goal.invariant-digits
invariant-digits l = (x y : ℕ) → x < 64 → y < 16 → row_cells l.dying x y ≡ min 1 (number_at (take l.k l.digits) l.s x y)
