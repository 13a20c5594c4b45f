use Rattle.std.proofs.Common.{take}
use Rattle.std.specs.List.{AllPairs}
use Rattle.ca_clusters.specs.inner.Regions.{KeepClear}
use Rattle.ca_clusters.proofs.regions.meeting_regions.Given as goal

-- no clusters of two of the regions so far ever meet
abbrev pub invariant-regions : goal.invariant-regions
invariant-regions l = AllPairs KeepClear (take l.other l.regions)
