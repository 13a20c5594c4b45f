use Rattle.std.proofs.Common.{◌≡◌, ℕ, ◌+◌, List, length, map}
use Rattle.std.specs.List.{All}
use Rattle.ca_clusters.specs.inner.Groups.{AreGenerations, AreCoursesOf, start_of}
use Rattle.ca_clusters.proofs.objects.courses.courses_of.Given as goal

-- the courses of the runs so far
abbrev pub invariant-runs : goal.invariant-runs
invariant-runs l =
    (next : List ℕ → ℕ) → All (λ run. AreGenerations next run.planes.items × (length run.planes.items ≡ length l.cluster.planes + 1)) l.yielded
    → AreCoursesOf next l.cluster (map start_of l.yielded) l.courses.items
