use Rattle.std.proofs.Common.{length}
use Rattle.ca_plane.specs.Prelude.{cell}
use Rattle.ca_clusters.specs.Clusters.{first_plane}
use Rattle.ca_clusters.specs.inner.Groups.{AreGroups}
use Rattle.ca_clusters.proofs.objects.grouping.grouped.Given as goal

-- the groups are the cluster's first plane together, and no two touch
abbrev pub invariant-groupings : goal.invariant-groupings
invariant-groupings g l = AreGroups (cell (first_plane l.cluster)) l.groups.items

-- the number of groups
abbrev pub decreases-groupings : goal.decreases-groupings
decreases-groupings g l = length l.groups.items
