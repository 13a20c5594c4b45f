use Rattle.std.proofs.Common.{◌≡◌, ◌++◌}
use Rattle.ca_rule.specs.Prelude.{digits_of}
use Rattle.ca_rule.proofs.PrintedRules.{digits_from}
use Rattle.ca_rule.proofs.counts.Counts.push_digits.Given as goal

abbrev pub invariant-counts : goal.invariant-counts
invariant-counts l = l.out.items ++ digits_from l.self l.count ≡ l.initial.out.items ++ digits_of l.self
