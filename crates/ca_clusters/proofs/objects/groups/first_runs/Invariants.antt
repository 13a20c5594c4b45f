use Rattle.std.proofs.Common.{◌≡◌, length, map}
use Rattle.std.specs.List.{All}
use Rattle.ca_plane.specs.Prelude.{IsSparse}
use Rattle.ca_clusters.specs.inner.Groups.{start_of}
use Rattle.ca_clusters.proofs.objects.groups.first_runs.Given as goal

-- each group so far has a run of its one plane
abbrev pub invariant-groups : goal.invariant-groups
invariant-groups l = record {
  starts : map start_of l.runs.items ≡ l.yielded;
  one : All (λ run. length run.planes.items ≡ 1) l.runs.items;
  sparse : All IsSparse l.yielded;
}
