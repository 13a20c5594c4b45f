use Rattle.std.proofs.Common.{subst}
use Rattle.ca_pattern.specs.Prelude.{IsConvertFault, convert_fault_of}
use Rattle.ca_pattern.proofs.OneFault.{opening_alone, alone_is}
use Rattle.ca_pattern.proofs.OpenedFiles.{unconverted}
use Rattle.ca_pattern.proofs.conversion.convert.Goals as goal

pub convert_fault-requires : goal.convert_fault-requires
convert_fault-requires c =
    let found = opening_alone c.args.bytes.now c.args.tables.now c.in-Err.refused c.in-Err.ensures.fault in
    (found.0, found.1)

pub convert_fault-requires-in-Err-text : goal.convert_fault-requires-in-Err-text
convert_fault-requires-in-Err-text c =
    let is = c.in-Ok.ensures.opened in
    let found = unconverted c.args.bytes.now c.args.tables.now c.in-Ok.pattern is c.args.target c.in-Err-text.refused (c.in-Err-text.ensures.fault _ is.is_pattern) in
    (found.0, found.1)

pub returns-in-Err-text-clause-fault : goal.returns-in-Err-text-clause-fault
returns-in-Err-text-clause-fault c =
    let bytes = c.args.bytes.now in
    let tables = c.args.tables.now in
    let refused = c.in-Err-text.refused in
    let is = c.in-Ok.ensures.opened in
    let (fault, is_fault, holds) = unconverted bytes tables c.in-Ok.pattern is c.args.target refused (c.in-Err-text.ensures.fault _ is.is_pattern) in
    subst (IsConvertFault bytes tables c.args.target)
    (alone_is bytes tables (convert_fault_of refused) fault c.convert_fault-in-Err-text.result is_fault c.convert_fault-in-Err-text.ensures) holds
