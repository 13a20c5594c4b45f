use Rattle.std.proofs.Common.{rules, refl, sym, subst, ◌∙◌, map}
use Rattle.std.specs.Io.KnownBytes.{Appends}
use Rattle.std.proofs.lemmas.Bool.{false≢true}
use Rattle.std.proofs.lemmas.Option.{slice_get-get_or}
use Rattle.ca_plane.specs.Prelude.{AppendsPrefix}
use Rattle.ca_census_files.specs.Prelude.{named_bytes, AddsFiles}
use Rattle.ca_census_runs.specs.declared.fault.CensusFault.TheVariants.{Memory}
use Rattle.ca_census_runs.specs.Prelude.{EndsCensus}
use Rattle.ca_census_runs.specs.inner.Tasks.{fault_of_files, fault_of_folder}
use Rattle.ca_census_runs.proofs.AddedFiles.{has_files, ends_unadded, ends_unfiled}
use Rattle.ca_census_runs.proofs.Answered.{when_ok, when_err}
use Rattle.ca_census_runs.proofs.FilesTold.{none_told, have_next, part_next, told_still, ends_at, some_at}
use Rattle.ca_census_runs.proofs.run.write_files.Goals as goal

pub subjects-init : goal.subjects-init
subjects-init g c = record {
  index = refl;
  told =
      none_told g.F.Folder.files g.W.Write.contents c.args.folder.now c.args.folder.now c.args.device.now c.args.device.now c.args.rules.now c.args.task
      c.new-names.result c.new-refused.result.items c.new-names.ensures c.new-refused.ensures.items (search rules);
}

-- there are no files of the next one's census
pub returns-in-Err-clause-ends : goal.returns-in-Err-clause-ends
returns-in-Err-clause-ends g c =
    let at = slice_get-get_or c.args.subjects.now c.subjects.subject-index _ c.subjects-test.true in
    let fault = fault_of_files c.in-Err.fault c.subjects.index in
    let ends = ends_unfiled c.args.rules.now c.args.task c.subjects.index c.subjects.subject-index _ c.in-Err.fault c.subjects.invariant.index c.in-Err.ensures.none in
    subst (EndsCensus g.F.Folder.files g.W.Write.contents c.args.folder.now c.subjects.folder c.args.device.now c.subjects.device c.args.rules.now c.args.task c.args.subjects.now)
    (sym c.of_files.ensures)
    (ends_at g.F.Folder.files g.W.Write.contents c.args.folder.now c.subjects.folder c.args.device.now c.subjects.device c.args.rules.now c.args.task c.args.subjects.now
    c.subjects.subject-index _ c.subjects.names c.subjects.refused.items fault c.subjects.invariant.told at ends)

-- memory is out for one entry more
pub returns-then-is_err-clause-ends : goal.returns-then-is_err-clause-ends
returns-then-is_err-clause-ends g c =
    let next = some_at c.args.subjects.now c.subjects.subject-index c.subjects-test.true in
    ends_at g.F.Folder.files g.W.Write.contents c.args.folder.now c.subjects.folder c.args.device.now c.subjects.device c.args.rules.now c.args.task c.args.subjects.now
    c.subjects.subject-index next.0 c.subjects.names c.subjects.refused.items Memory c.subjects.invariant.told next.1 tt

-- the files of its census aren't added
pub returns-in-Err-add-clause-ends : goal.returns-in-Err-add-clause-ends
returns-in-Err-add-clause-ends g c =
    let at = slice_get-get_or c.args.subjects.now c.subjects.subject-index _ c.subjects-test.true in
    let has = has_files c.args.rules.now c.args.task c.subjects.names _ _ c.in-Ok.ensures.told.tells (λ none. false≢true (c.in-Err-add.ensures.nothing (c.deref.ensures.value ∙ none))) in
    let ends = ends_unadded c.args.rules.now c.args.task c.subjects.subject-index _ c.in-Err-add.fault has in
    let have =
    told_still g.F.Folder.files g.W.Write.contents c.args.folder.now c.subjects.folder c.args.device.now c.subjects.device c.args.rules.now c.args.task c.add.new.self _
    c.subjects.names c.subjects.refused.items c.in-Err-add.ensures.unchanged c.subjects.invariant.told
    in
    subst (EndsCensus g.F.Folder.files g.W.Write.contents c.args.folder.now c.add.new.self c.args.device.now c.subjects.device c.args.rules.now c.args.task c.args.subjects.now)
    (sym c.of_folder.ensures)
    (ends_at g.F.Folder.files g.W.Write.contents c.args.folder.now c.add.new.self c.args.device.now c.subjects.device c.args.rules.now c.args.task c.args.subjects.now
    c.subjects.subject-index _ c.subjects.names c.subjects.refused.items (fault_of_folder c.in-Err-add.fault) have at ends)

-- the lines on one file more were written in part
pub returns-then-is_err-2-clause-ends : goal.returns-then-is_err-2-clause-ends
returns-then-is_err-2-clause-ends g c =
    let at = slice_get-get_or c.args.subjects.now c.subjects.subject-index _ c.subjects-test.true in
    let adds = subst (λ l. AddsFiles (g.F.Folder.files c.subjects.folder) (g.F.Folder.files c.add.new.self) (map named_bytes l)) c.deref.ensures.value c.in_default.ensures.added in
    part_next g.F.Folder.files g.W.Write.contents c.args.folder.now c.subjects.folder c.add.new.self c.args.device.now c.subjects.device c.send.new.device c.args.rules.now c.args.task
    c.args.subjects.now c.subjects.subject-index _ c.subjects.names c.put_file.new.names c.subjects.refused.items c.put_file.new.out.items c.in-Ok.told c.subjects.invariant.told
    c.in-Ok.ensures.told at adds
    (subst (AppendsPrefix (g.W.Write.contents c.subjects.device.inner) (g.W.Write.contents c.send.new.device.inner)) c.deref-in-subjects.ensures.value (when_err c.send.result _ c.is_err-in-subjects.result c.is_err-in-subjects.ensures.value c.if-is_err-2.true c.send.ensures.front))
    (when_err c.send.result _ c.is_err-in-subjects.result c.is_err-in-subjects.ensures.value c.if-is_err-2.true c.send.ensures.counted)

-- or whole
pub subjects-preserved : goal.subjects-preserved
subjects-preserved g c =
    let at = slice_get-get_or c.args.subjects.now c.subjects.subject-index _ c.subjects-test.true in
    let adds = subst (λ l. AddsFiles (g.F.Folder.files c.subjects.folder) (g.F.Folder.files c.add.new.self) (map named_bytes l)) c.deref.ensures.value c.in_default.ensures.added in
    record {
      index = search rules;
      told =
          have_next g.F.Folder.files g.W.Write.contents c.args.folder.now c.subjects.folder c.add.new.self c.args.device.now c.subjects.device c.send.new.device c.args.rules.now c.args.task
          c.args.subjects.now c.subjects.subject-index _ c.subjects.names c.put_file.new.names c.subjects.refused.items c.put_file.new.out.items c.in-Ok.told c.keep.new.entries.items
          c.subjects.invariant.told c.in-Ok.ensures.told at
          (when_ok c.keep.result _ c.is_err.result c.is_err.ensures.value c.if-is_err.false c.keep.ensures) adds
          (subst (Appends (g.W.Write.contents c.subjects.device.inner) (g.W.Write.contents c.send.new.device.inner)) c.deref-in-subjects.ensures.value
          (when_ok c.send.result _ c.is_err-in-subjects.result c.is_err-in-subjects.ensures.value c.if-is_err-2.false c.send.ensures.all))
          (when_ok c.send.result _ c.is_err-in-subjects.result c.is_err-in-subjects.ensures.value c.if-is_err-2.false c.send.ensures.kept);
    }
