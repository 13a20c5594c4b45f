use Rattle.ca_rle.proofs.FaultLines.{fault_of_line, line_of_fault}
use Rattle.ca_rle.proofs.laws.line_of_a_fault.Goals as goal

pub returns-clause-fault : goal.returns-clause-fault
returns-clause-fault c = λ bytes f line p. fault_of_line bytes f line p

pub returns-clause-line : goal.returns-clause-line
returns-clause-line c = line_of_fault
