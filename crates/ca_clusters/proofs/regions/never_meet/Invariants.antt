use Rattle.std.specs.List.{AllWithin}
use Rattle.ca_clusters.specs.inner.Regions.{IsApartFromAll}
use Rattle.ca_clusters.proofs.regions.never_meet.Given as goal

-- those so far never meet the others
abbrev pub invariant-clusters : goal.invariant-clusters
invariant-clusters l = AllWithin (IsApartFromAll l.others) l.clusters 0 l.cluster-index
