use Rattle.std.proofs.Common.{take}
use Rattle.std.specs.List.{AllZip}
use Rattle.ca_clusters.specs.inner.Earlier.{IsEarlierCourse}
use Rattle.ca_clusters.proofs.earlier.earlier_clusters.Given as goal

-- the courses so far are those that the clusters so far had earlier
abbrev pub invariant-clusters : goal.invariant-clusters
invariant-clusters l = AllZip (IsEarlierCourse l.n) (take l.cluster-index l.clusters) l.earlier.items
