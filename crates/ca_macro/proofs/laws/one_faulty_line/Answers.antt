use Rattle.ca_macro.proofs.OneMeaning.{on_a_line, is_first, one_faulty_line}
use Rattle.ca_macro.proofs.laws.one_faulty_line.Goals as goal

pub returns-clause-line : goal.returns-clause-line
returns-clause-line c = on_a_line

pub returns-clause-fault : goal.returns-clause-fault
returns-clause-fault c = is_first

pub returns-clause-one : goal.returns-clause-one
returns-clause-one c = one_faulty_line
