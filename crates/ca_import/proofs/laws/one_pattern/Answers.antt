use Rattle.ca_import.proofs.OneMeaning.{one_cell_state, one_named_rule}
use Rattle.ca_import.proofs.laws.one_pattern.Goals as goal

pub returns-clause-cells : goal.returns-clause-cells
returns-clause-cells c = one_cell_state

pub returns-clause-rule : goal.returns-clause-rule
returns-clause-rule c = one_named_rule
