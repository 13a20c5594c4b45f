use Rattle.std.proofs.Common.{rules, ◌≡◌, map, ◌<◌, length, take, replicate, None, arith, ap, ◌∙◌, sym}
use Rattle.std.specs.Option.{option_copied}
use Rattle.std.proofs.lemmas.Option.{slice_get_within}
use Rattle.std.proofs.lemmas.List.{map-set}
use Rattle.ca_answers.specs.Prelude.{contents, bytes_at}
use Rattle.ca_verify.proofs.FoundFiles.{found-put, found-same, found-none, found-nothing, found-length, found-at, copied-nothing, copied-none, copied-some, contents-more}
use Rattle.ca_verify.proofs.verifier.find_files.Goals as goal
use Rattle.ca_verify.proofs.verifier.find_files.Goals.{in-Some+then-is_none, in-Some+else-is_none, in_default}

pub files-init : goal.files-init
files-init c =
    let items : c.in_ok-found.found.items ≡ replicate c.path_count.result None = c.in_ok-found.ensures.items_if_clones_equal (search rules) in
    ap (map option_copied) items ∙ copied-nothing _ ∙ ap (λ n. replicate n None) c.path_count.ensures.count ∙ sym (found-nothing c.args.claims.now.paths)

pub index-requires : goal.index-requires
index-requires c =
    let same = found-length option_copied (bytes_at (contents (take c.files.file-index c.args.files.now))) c.files.found.items c.args.claims.now.paths c.files.invariant in
    let within : c.in-Some.index < length c.args.claims.now.paths = slice_get_within _ _ _ c.in-Some.ensures in
    omega (arith, c.files.found.ok)

pub index_mut-requires : goal.index_mut-requires
index_mut-requires c =
    let same = found-length option_copied (bytes_at (contents (take c.files.file-index c.args.files.now))) c.files.found.items c.args.claims.now.paths c.files.invariant in
    let within : c.in-Some.index < length c.args.claims.now.paths = slice_get_within _ _ _ c.in-Some.ensures in
    omega (arith, c.files.found.ok)

pub files-preserved : goal.files-preserved
files-preserved c =
    let paths = c.args.claims.now.paths in
    let fs = contents (take c.files.file-index c.args.files.now) in
    let more = contents-more c.args.files.now c.files.file-index _ c.files-test.true in
    elim c.match-index_of_path.branch [
      | in-Some+then-is_none w ↦
          let at = found-at option_copied (bytes_at fs) c.files.found.items paths w.in-Some.index w.index.result.now _ c.files.invariant w.in-Some.ensures w.index.ensures in
          let new = sym at ∙ copied-none w.index.result.now w.if-is_none.ensures in
          ap (λ v. map option_copied v.items) w.found-is ∙ map-set option_copied c.files.found.items w.in-Some.index _
          ∙ found-put fs _ paths w.in-Some.index _ c.files.invariant c.path_count.ensures.distinct w.in-Some.ensures new ∙ ap (λ l. map (bytes_at l) paths) (sym more)
      | in-Some+else-is_none w ↦
          let at = found-at option_copied (bytes_at fs) c.files.found.items paths w.in-Some.index w.index.result.now _ c.files.invariant w.in-Some.ensures w.index.ensures in
          let there = copied-some w.index.result.now w.if-is_none.ensures in
          ap (λ v. map option_copied v.items) w.found-is ∙ c.files.invariant ∙ sym (found-same fs _ there.0 (sym at ∙ there.1) paths) ∙ ap (λ l. map (bytes_at l) paths) (sym more)
      | in_default w ↦ ap (λ v. map option_copied v.items) w.found-is ∙ c.files.invariant ∙ sym (found-none fs _ paths w.in_default.ensures) ∙ ap (λ l. map (bytes_at l) paths) (sym more)
    ]
