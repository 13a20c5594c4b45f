use Rattle.ca_rule.proofs.OneTable.{one_table}
use Rattle.ca_rule.proofs.table.text_laws.one_table.Goals as goal

pub returns : goal.returns
returns c = one_table
