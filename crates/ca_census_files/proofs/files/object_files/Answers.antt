use Rattle.std.proofs.Common.{◌+◌, sym, subst, arith}
use Rattle.std.proofs.lemmas.Result.{err_from_is_err_and}
use Rattle.ca_census.specs.declared.entry.CensusObject.{CensusObject}
use Rattle.ca_census.specs.Prelude.{FitsFile}
use Rattle.ca_census_files.specs.Prelude.{object_name, IsPatternFile, AreObjectFiles}
use Rattle.ca_census_files.proofs.Numbered.{files_more}
use Rattle.ca_census_files.proofs.OutOfRange.{object_unwritten}
use Rattle.ca_census_files.proofs.files.object_files.Goals as goal

pub object_file-requires-clause-fits : goal.object_file-requires-clause-fits
object_file-requires-clause-fits c =
    subst (λ (o : CensusObject). FitsFile c.args.origin.now.states o.plane) (sym c.object-item.is) (c.requires.fits c.objects.object-index c.object-item.result c.objects-test.true)

pub returns-in_err-file-clause-none : goal.returns-in_err-file-clause-none
returns-in_err-file-clause-none c =
    let p = err_from_is_err_and c.from_residual.result c.from_residual.ensures.1 in
    rw (p.1, p.2) (object_unwritten c.args.objects.now c.objects.object-index c.object-item.result c.objects-test.true c.object-item.is c.in_err-file.field-0.0 c.in_err-file.ensures.none)

pub objects-preserved : goal.objects-preserved
objects-preserved c =
    let file = subst (λ n. IsPatternFile (object_name c.args.name.now (n + 1)) c.object-item.result.plane c.args.origin.now c.args.generation c.in_ok-file.file) c.objects.invariant.numbered
    c.in_ok-file.ensures.file in
    record {
      numbered = omega arith;
      made = subst (AreObjectFiles c.args.name.now 1 _ c.args.origin.now c.args.generation) (sym c.in_ok-put.ensures.put)
          (files_more c.args.name.now c.args.objects.now c.objects.object-index c.object-item.result c.args.origin.now c.args.generation c.objects.files.items c.in_ok-file.file
          c.objects-test.true c.object-item.is c.objects.invariant.made file);
    }
