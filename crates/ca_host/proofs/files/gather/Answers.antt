use Rattle.std.proofs.Common.{◌≡◌, ◌<◌, length, Some, Bool, List, [], ◌∷◌, ◌++◌, arith, ap, sym, ◌∙◌}
use Rattle.std.specs.Prelude.{slice_get}
use Rattle.std.proofs.lemmas.Option.{slice_get-get_or}
use Rattle.std.proofs.lemmas.List.{nil_from_length}
use Rattle.std.proofs.lemmas.Slice.Zip.{AllZip-long}
use Rattle.ca_host.specs.Files.{AddsOutcome, loaded_files, lost_files}
use Rattle.ca_host.specs.declared.files.{LoadedFile.LoadedFile, LostFile.LostFile}
use Rattle.ca_host.proofs.Outcomes.{all_unneeded, AllZip-unneeded, loaded-unneeded, lost-unneeded, loaded-more, lost-more, at_both, AllZip-take_more, IsOutcome-if}
use Rattle.ca_host.proofs.files.gather.Goals as goal

-- a text without claims needs no path
pub returns-then-claim_count-eq0-clause-files : goal.returns-then-claim_count-eq0-clause-files
returns-then-claim_count-eq0-clause-files g c =
    let claims = c.args.claims.now in
    let none : claims.claims ≡ [] = nil_from_length claims.claims (omega arith) in
    (all_unneeded claims.paths, AllZip-unneeded _ claims.paths (λ path needed. needed.0 none), c.new.ensures.items ∙ loaded-unneeded claims.paths, c.new-2.ensures.items ∙ lost-unneeded claims.paths)

-- there is a flag for each path
pub index-requires : goal.index-requires
index-requires g c =
    let claims = c.args.claims.now in
    omega (arith, AllZip-long _ claims.paths c.in_ok-needed.needed.items c.in_ok-needed.ensures.needed)

-- one more path
pub paths-preserved : goal.paths-preserved
paths-preserved g c =
    let claims = c.args.claims.now in
    let before = c.paths.invariant in
    let path = c.path.result.now in
    let flag = c.index.result.now in
    let step : AddsOutcome g.D.WholeFiles.gives g.D.WholeFiles.lacks c.args.root.now path flag c.paths.files c.add_if_needed.new.files = c.in_ok-add_if_needed.ensures in
    let within : c.paths.index < length c.in_ok-needed.needed.items = omega (arith, AllZip-long _ claims.paths c.in_ok-needed.needed.items c.in_ok-needed.ensures.needed) in
    let there : slice_get c.in_ok-needed.needed.items c.paths.index ≡ Some flag = slice_get-get_or c.in_ok-needed.needed.items c.paths.index flag within ∙ ap (λ (b : Bool). Some b) (sym c.index.ensures) in
    let needed = at_both _ claims.paths c.in_ok-needed.needed.items c.paths.index path flag c.in_ok-needed.ensures.needed c.path.ensures there in (
      before.0 ++ step.0 ∷ [],
      AllZip-take_more _ claims.paths before.0 c.paths.index path step.0 c.path.ensures before.1 (IsOutcome-if _ _ c.args.root.now claims path flag step.0 needed step.1),
      step.2 ∙ (ap (λ (fs : List LoadedFile). fs ++ loaded_files (step.0 ∷ [])) before.2 ∙ sym (loaded-more before.0 step.0)),
      step.3 ∙ (ap (λ (fs : List LostFile). fs ++ lost_files (step.0 ∷ [])) before.3 ∙ sym (lost-more before.0 step.0)),
    )
