use Rattle.std.proofs.Common.{◌≡◌, take}
use Rattle.std.specs.List.{All, flat_map}
use Rattle.ca_plane.specs.Prelude.{IsSparse}
use Rattle.ca_clusters.specs.inner.Groups.{latest_of}
use Rattle.ca_clusters.proofs.objects.groups.cells_of.Given as goal

-- the cells of the runs so far
abbrev pub invariant-runs : goal.invariant-runs
invariant-runs l = record {
  cells : l.cells.items ≡ flat_map latest_of (take l.run-index l.runs);
  sparse : All (λ run. IsSparse (latest_of run)) (take l.run-index l.runs);
}
