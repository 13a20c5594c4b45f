use Rattle.std.specs.List.{AllWithin}
use Rattle.ca_clusters.specs.inner.Earlier.{AreAlwaysApart}
use Rattle.ca_clusters.proofs.regions.never_meets.Given as goal

-- the others so far never meet it
abbrev pub invariant-others : goal.invariant-others
invariant-others l = AllWithin (AreAlwaysApart l.cluster) l.others 0 l.other-index
