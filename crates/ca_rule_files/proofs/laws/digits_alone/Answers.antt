use Rattle.ca_rule_files.proofs.DigitLists.{digits-next}
use Rattle.ca_rule_files.proofs.laws.digits_alone.Goals as goal

pub returns : goal.returns
returns c = digits-next
