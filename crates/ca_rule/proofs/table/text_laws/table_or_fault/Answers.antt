use Rattle.ca_rule.proofs.OneTable.{none_of_a_table, one_fault}
use Rattle.ca_rule.proofs.TableOrFault.{one_or_the_other}
use Rattle.ca_rule.proofs.table.text_laws.table_or_fault.Goals as goal

pub returns : goal.returns
returns c = record {
  none_of_a_table = none_of_a_table;
  one_fault = one_fault;
  one_or_the_other = one_or_the_other;
}
