use Rattle.std.proofs.Common.{◌≡◌, ◌<◌, ◌+◌, ℕ, length}
use Rattle.ca_plane.specs.Prelude.{IsSame}
use Rattle.ca_parts.specs.Prelude.{plane_at}
use Rattle.ca_clusters.specs.inner.Earlier.{shown_from}
use Rattle.ca_clusters.proofs.earlier.earlier_course.Given as goal

-- the planes so far are those of the generations from the first one on
abbrev pub invariant-phases : goal.invariant-phases
invariant-phases l = record {
  long : l.first + length l.planes.items ≡ l.k;
  each : (j : ℕ) → j < length l.planes.items → IsSame (plane_at l.planes.items j) (shown_from l.cluster l.turns (l.first + j));
}
