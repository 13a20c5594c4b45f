use Rattle.std.proofs.Common.{◌≡◌}
use Rattle.std.specs.Prelude.{ℤ, pos, ◌-ℤ◌, ◌≤ℤ◌, ◌<ℤ◌}
use Rattle.ca_plane.specs.Prelude.{cell}
use Rattle.ca_parts.specs.inner.Taking.{Takes, IsNear}
use Rattle.ca_parts.proofs.taking.take_near.Given as goal

-- the cells of the rows so far are taken
abbrev pub invariant-rows : goal.invariant-rows
invariant-rows l = record {
  takes : Takes (IsNear l.fn.reach l.fn.at) l.initial.left.items l.initial.taken.items l.left.items l.taken.items;
  low : (l.fn.at.y -ℤ pos l.fn.reach) ≤ℤ l.row;
  dark : (x y : ℤ) → IsNear l.fn.reach l.fn.at x y → y <ℤ l.row → cell l.left.items x y ≡ 0;
}
