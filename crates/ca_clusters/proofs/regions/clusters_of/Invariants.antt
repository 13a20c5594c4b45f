use Rattle.std.proofs.Common.{◌≡◌}
use Rattle.std.specs.List.{flat_map}
use Rattle.ca_clusters.specs.inner.Regions.{clusters_in}
use Rattle.ca_clusters.proofs.regions.clusters_of.Given as goal

-- the clusters of the regions so far
abbrev pub invariant-regions : goal.invariant-regions
invariant-regions l = l.clusters.items ≡ flat_map clusters_in l.yielded
