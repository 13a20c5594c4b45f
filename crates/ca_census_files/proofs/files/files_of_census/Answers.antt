use Rattle.std.proofs.Common.{◌+◌, ◌<◌, List, [], ◌∷◌, ◌++◌, ap, subst, ◌∙◌, append_assoc}
use Rattle.std.proofs.lemmas.Result.{err_from_is_err_and}
use Rattle.ca_plane.specs.Prelude.{generation_limit}
use Rattle.ca_census.specs.declared.entry.CensusObject.{CensusObject}
use Rattle.ca_census_files.specs.Prelude.{settled_name, IsPatternFile, AreObjectFiles, files_text}
use Rattle.ca_census_files.specs.inner.Unwritten.{IsUnwritten}
use Rattle.ca_census_files.proofs.OutOfRange.{planes, objects_without}
use Rattle.ca_census_files.proofs.files.files_of_census.Goals as goal

pub returns-in_err-files-clause-none : goal.returns-in_err-files-clause-none
returns-in_err-files-clause-none c =
    let p = err_from_is_err_and c.from_residual.result c.from_residual.ensures.1 in
    let why = subst (λ (os : List CensusObject). IsUnwritten (planes os) c.in_err-files.field-0.0) c.deref.ensures.value c.in_err-files.ensures.none in
    rw (p.1, p.2) (objects_without c.args.start c.args.origin.now c.args.census.now (subst (λ n. n < generation_limit) c.in-Some.ensures.some.0 c.in-Some.ensures.some.1) c.in_err-files.field-0.0 why)

pub returns-clause-files : goal.returns-clause-files
returns-clause-files c =
    let name = c.args.name.now in
    let origin = c.args.origin.now in
    let generation = c.in-Some.ensures.some.0 in
    let files = c.in_ok-files.files.items in
    let settled = c.in_ok-settled.settled in
    let claims = c.in-Ok.claims in
    let later = c.args.start + c.args.census.now.generations in
    let made = subst (λ (os : List CensusObject). AreObjectFiles name 1 os origin c.in-Some.generation files) c.deref.ensures.value c.in_ok-files.ensures.files in
    record {
      of_objects = files;
      settled = settled;
      claims = claims;
      all = c.in_ok-put-2.ensures.put ∙ ap (λ l. l ++ claims ∷ []) c.in_ok-put.ensures.put ∙ append_assoc files (settled ∷ []) (claims ∷ []);
      objects_are = subst (λ n. AreObjectFiles name 1 c.args.census.now.objects.items origin n files) generation made;
      settled_is = subst (λ n. IsPatternFile (settled_name name) c.args.census.now.plane origin n settled) generation c.in_ok-settled.ensures.file;
      claims_name = c.in-Ok.ensures.name;
      claims_are = c.in-Ok.ensures.text ∙ ap (files_text c.args.task.folder.now c.args.task.rules.now name c.args.path.now later) c.deref-2.ensures.value;
    }
