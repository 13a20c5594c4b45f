use Rattle.std.proofs.Common.{◌≡◌}
use Rattle.std.specs.Prelude.{ℤ, pos, ◌+ℤ◌, ◌-ℤ◌, ◌≤ℤ◌, ◌<ℤ◌}
use Rattle.ca_plane.specs.Prelude.{cell}
use Rattle.ca_parts.proofs.apart.is_near.Given as goal

-- the rows so far have no live cell near
abbrev pub invariant-rows : goal.invariant-rows
invariant-rows l = record {
  low : ((l.fn.at.y +ℤ l.fn.way.dy) -ℤ pos 2) ≤ℤ l.row;
  dark : (u v : ℤ) → ((l.fn.at.x +ℤ l.fn.way.dx) -ℤ pos 2) ≤ℤ u → u ≤ℤ ((l.fn.at.x +ℤ l.fn.way.dx) +ℤ pos 2)
      → ((l.fn.at.y +ℤ l.fn.way.dy) -ℤ pos 2) ≤ℤ v → v <ℤ l.row → cell l.cells u v ≡ 0;
}
