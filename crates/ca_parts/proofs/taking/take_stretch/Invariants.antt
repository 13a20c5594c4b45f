use Rattle.std.proofs.Common.{◌≡◌, ℕ, ◌<◌, ◌≤◌, get_or}
use Rattle.ca_plane.specs.declared.point.Point.{Point}
use Rattle.ca_parts.specs.inner.Taking.{Takes, IsInStretch}
use Rattle.ca_parts.proofs.taking.take_stretch.Given as goal

-- the cells so far are taken
abbrev pub invariant-cells : goal.invariant-cells
invariant-cells l = record {
  takes : Takes (IsInStretch l.west l.east l.row) l.initial.left.items l.initial.taken.items l.left.items l.taken.items;
  dark : (k : ℕ) (d : Point × ℕ) → l.first ≤ k → k < l.place → (get_or l.left.items k d).1 ≡ 0;
}
