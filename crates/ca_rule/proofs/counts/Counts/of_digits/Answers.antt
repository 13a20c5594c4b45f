use Rattle.ca_rule.proofs.counts.Counts.of_digits.Goals as goal

pub returns : goal.returns
returns c = cc
