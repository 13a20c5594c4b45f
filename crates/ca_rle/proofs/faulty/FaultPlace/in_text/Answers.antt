use Rattle.ca_rle.proofs.FaultLines.{on_line}
use Rattle.ca_rle.proofs.faulty.FaultPlace.in_text.Goals as goal

pub returns-clause-fault : goal.returns-clause-fault
returns-clause-fault c = (on_line c.args.text.now _ _ _ c.requires c.line_of.ensures).0

pub returns-clause-no_memory : goal.returns-clause-no_memory
returns-clause-no_memory c = (on_line c.args.text.now _ _ _ c.requires c.line_of.ensures).1
