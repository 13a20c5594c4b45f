use Rattle.std.proofs.Common.{◌≡◌, ◌++◌}
use Rattle.ca_clusters.proofs.regions.with_all.Given as goal

-- the clusters and the others so far
abbrev pub invariant-others : goal.invariant-others
invariant-others l = l.clusters.items ≡ l.fn.clusters.items ++ l.yielded
