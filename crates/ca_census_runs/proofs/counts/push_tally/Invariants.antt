use Rattle.std.proofs.Common.{◌≡◌, ◌++◌}
use Rattle.std.specs.List.{flat_map}
use Rattle.ca_census_runs.specs.Prelude.{count_line}
use Rattle.ca_census_runs.specs.inner.Entries.{counts_of}
use Rattle.ca_census_runs.proofs.counts.push_tally.Given as goal

-- the lines so far and those that are left are all
abbrev pub invariant-counts : goal.invariant-counts
invariant-counts l = l.out.items ++ flat_map count_line (counts_of l.label-iterator) ≡ l.fn.out.items ++ flat_map count_line (counts_of l.counts.entries)
