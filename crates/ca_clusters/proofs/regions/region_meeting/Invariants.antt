use Rattle.std.specs.List.{AllWithin}
use Rattle.ca_clusters.specs.inner.Regions.{KeepClear}
use Rattle.ca_clusters.proofs.regions.region_meeting.Given as goal

-- no cluster of the regions so far ever meets one of the other
abbrev pub invariant-regions : goal.invariant-regions
invariant-regions l = AllWithin (λ one. KeepClear one l.other) l.regions 0 l.one
