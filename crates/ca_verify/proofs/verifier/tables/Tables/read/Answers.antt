use Rattle.ca_verify.proofs.TablesFound.{missing_at, faulty_at, tables_at}
use Rattle.ca_text.proofs.PairedLists.{each-All}
use Rattle.ca_verify.proofs.verifier.tables.Tables.read.Goals as goal

pub returns-in-Some : goal.returns-in-Some
returns-in-Some c = λ files paths e. missing_at files paths c.args.found.now e c.args.places.now (each-All _ c.args.places.now c.requires) c.in-Some.place c.in-Some.ensures

pub returns-in-Ok : goal.returns-in-Ok
returns-in-Ok c = λ files paths e. tables_at files paths c.args.found.now e c.args.places.now (each-All _ c.args.places.now c.requires) c.in-Ok.tables.items c.in-Ok.ensures.read

pub returns-in_default-fault : goal.returns-in_default-fault
returns-in_default-fault c = λ files paths e.
    faulty_at files paths c.args.found.now e c.args.places.now (each-All _ c.args.places.now c.requires) c.in-Err.faulty c.in_default.ensures (c.in-Err.ensures.fault c.in_default-fault.not-Memory)
