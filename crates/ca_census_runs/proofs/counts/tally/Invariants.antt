use Rattle.std.proofs.Common.{map, take}
use Rattle.ca_census_runs.specs.Prelude.{IsTally, label}
use Rattle.ca_census_runs.specs.inner.Entries.{counts_of}
use Rattle.ca_census_runs.proofs.counts.tally.Given as goal

-- the labels so far are counted
abbrev pub invariant-objects : goal.invariant-objects
invariant-objects l = IsTally (map label (take l.object-index l.objects)) (counts_of l.counts.entries)
