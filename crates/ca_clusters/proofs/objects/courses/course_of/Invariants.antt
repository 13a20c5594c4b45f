use Rattle.std.proofs.Common.{◌≡◌, ℕ, ◌-◌, ◌<◌, ◌≤◌, length}
use Rattle.std.specs.Prelude.{ℤ}
use Rattle.ca_plane.specs.Prelude.{IsSame, shifted}
use Rattle.ca_parts.specs.Prelude.{plane_at}
use Rattle.ca_clusters.proofs.objects.courses.course_of.Given as goal

-- no plane so far, but the first one, is that one, moved
abbrev pub invariant-planes : goal.invariant-planes
invariant-planes l = record {
  kept : l.planes.items ≡ l.fn.planes.items;
  some : 1 ≤ l.k;
  away : (j : ℕ) → 1 ≤ j → j < l.k → (dx dy : ℤ) → IsSame (plane_at l.fn.planes.items j) (shifted (plane_at l.fn.planes.items 0) dx dy) → ⊥;
}

-- the planes that are still to be looked at
abbrev pub decreases-planes : goal.decreases-planes
decreases-planes l = length l.planes.items - l.k
