use Rattle.ca_rle.proofs.FaultLines.{line_or_none}
use Rattle.ca_rle.proofs.OneFault.{no_fault_in_a_file}
use Rattle.ca_rle.proofs.fault_line.faulty_line.Goals as goal

pub returns-in-Ok : goal.returns-in-Ok
returns-in-Ok c = λ f. no_fault_in_a_file c.args.bytes.now c.in-Ok.ensures.found.0 f c.in-Ok.ensures.found.1.is_file

pub returns-in-Err : goal.returns-in-Err
returns-in-Err c = line_or_none c.args.bytes.now _ _ c.in-Err.ensures.no_memory c.in-Err.ensures.fault
