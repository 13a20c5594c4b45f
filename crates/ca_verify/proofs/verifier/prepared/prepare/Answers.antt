use Rattle.std.proofs.Common.{subst, sym}
use Rattle.ca_text.specs.Prelude.{path_at, map_both}
use Rattle.ca_verify.specs.inner.PreparedClaim.{IsPrepared}
use Rattle.ca_verify.specs.inner.Refusals.{IsRefusal}
use Rattle.ca_verify.proofs.Causes.{found_there, found_missing, all_there, passed_on}
use Rattle.ca_verify.proofs.verifier.prepared.prepare.Goals as goal

pub returns-in-Err-clause-prepared : goal.returns-in-Err-clause-prepared
returns-in-Err-clause-prepared c = λ files paths rules e read.
    subst (IsRefusal files paths rules c.args.asks (map_both (path_at paths) c.args.places.now)) (sym c.of_pattern.ensures)
    (found_missing files paths c.args.found.now e rules c.args.asks c.in-Err.part c.args.places.now c.requires.within c.in-Err.ensures)

pub returns-in_err-tables-clause-prepared : goal.returns-in_err-tables-clause-prepared
returns-in_err-tables-clause-prepared c = λ files paths rules e read.
    let each = map_both (path_at paths) c.args.places.now in
    let there = found_there files paths c.args.found.now e c.args.places.now c.in-Ok.files c.requires.within c.in-Ok.ensures in
    let refusal = c.in_err-tables.field-0.0 in
    passed_on (IsPrepared files rules c.args.asks each) (IsRefusal files paths rules c.args.asks each) c.from_residual.result refusal c.from_residual.ensures.1
    (c.in_err-tables.ensures.refusal files paths rules c.args.asks each read (all_there files each c.in-Ok.files there))

pub returns-clause-prepared : goal.returns-clause-prepared
returns-clause-prepared c = λ files paths rules e read.
    let each = map_both (path_at paths) c.args.places.now in
    let there = found_there files paths c.args.found.now e c.args.places.now c.in-Ok.files c.requires.within c.in-Ok.ensures in
    c.prepare_by.ensures.prepared files paths rules each there (c.in_ok-tables.ensures.tables files paths rules read)
