use Rattle.std.proofs.Common.{◌≡◌, ℕ, ◌+◌, ◌-◌, ◌<◌, [], length, get_or}
use Rattle.std.specs.Prelude.{ℤ}
use Rattle.std.specs.List.{sum_by}
use Rattle.ca_plane.specs.declared.point.Point.{Point}
use Rattle.ca_plane.specs.Prelude.{cell}
use Rattle.ca_parts.specs.inner.Taking.{Takes, IsNear, IsChained}
use Rattle.ca_parts.proofs.taking.take_reached.Given as goal

-- what was taken is reached from the point, and nothing is left near the cells so far
abbrev pub invariant-steps : goal.invariant-steps
invariant-steps l = record {
  takes : Takes (IsChained l.fn.reach (cell l.fn.left.items) l.fn.at) l.fn.left.items [] l.left.items l.taken.items;
  start : cell l.left.items l.fn.at.x l.fn.at.y ≡ 0;
  spread : (k : ℕ) (d : Point × ℕ) → k < l.next → (u v : ℤ) → IsNear l.fn.reach (get_or l.taken.items k d).0 u v → cell l.left.items u v ≡ 0;
}

-- the states that are left, and the cells that are still to be looked round
abbrev pub decreases-steps : goal.decreases-steps
decreases-steps l = (sum_by (λ e. e.1) l.left.items + length l.taken.items) - l.next
