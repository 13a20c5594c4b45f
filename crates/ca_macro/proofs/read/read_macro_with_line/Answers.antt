use Rattle.ca_macro.specs.Prelude.{IsMacrocellFaultOn}
use Rattle.ca_macro.proofs.OneMeaning.{reading_fault, refused}
use Rattle.ca_macro.proofs.Saying.{passed_on}
use Rattle.ca_macro.proofs.read.read_macro_with_line.Goals as goal

pub returns-in_err-reading-clause-fault : goal.returns-in_err-reading-clause-fault
returns-in_err-reading-clause-fault c =
    passed_on _ c.in_err-reading.field-0.0 (λ f. IsMacrocellFaultOn c.args.bytes.now f.fault f.line) c.from_residual.ensures.1 (reading_fault c.args.bytes.now _ _ c.in_err-reading.ensures.fault)

pub returns-clause-fault : goal.returns-clause-fault
returns-clause-fault c =
    let read = c.in_ok-reading.ensures.found in
    refused c.args.bytes.now read.0 _ read.1 (c.in-Err.ensures.fault read.0 read.2)
