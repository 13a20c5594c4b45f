use Rattle.ca_rule_files.proofs.Neighbourhoods.{one-kind, turned-letter, mirrored-letter}
use Rattle.ca_rule_files.proofs.laws.one_kind.Goals as goal

pub returns : goal.returns
returns c = record { one = one-kind; turned = turned-letter; mirrored = mirrored-letter }
