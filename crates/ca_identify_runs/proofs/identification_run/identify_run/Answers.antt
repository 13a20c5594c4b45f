use Rattle.std.proofs.Common.{rules, refl, ap, subst, ◌∙◌, ◌++◌}
use Rattle.std.specs.Io.KnownBytes.{Appends}
use Rattle.ca_plane.specs.Prelude.{AppendsPrefix}
use Rattle.ca_identify_lines.specs.Prelude.{version_line}
use Rattle.ca_identify_runs.proofs.CatalogWrites.{head_in_part, ends_catalog}
use Rattle.ca_identify_runs.proofs.identification_run.identify_run.Goals as goal

-- the head was written in part
pub returns-then-is_err-clause-ends : goal.returns-then-is_err-clause-ends
returns-then-is_err-clause-ends g c =
    let head = c.head_pieces.ensures ∙ ap (λ l. version_line ++ l) (c.deref.ensures.value ∙ c.in-Ok.ensures.text) in
    head_in_part g.W.Write.contents _ _ c.args.rules.now _ _
    (subst (AppendsPrefix (g.W.Write.contents c.args.device.now.inner) (g.W.Write.contents c.send_pieces.new.device.inner)) head (search rules)) (search rules)

-- the head was written, and not all lines were
pub returns-in-Err-clause-ends : goal.returns-in-Err-clause-ends
returns-in-Err-clause-ends g c =
    let head = c.head_pieces.ensures ∙ ap (λ l. version_line ++ l) (c.deref.ensures.value ∙ c.in-Ok.ensures.text) in
    ends_catalog g.W.Write.contents _ c.send_pieces.new.device _ c.args.rules.now _ c.args.subjects.now c.in-Err.fault refl
    (subst (Appends (g.W.Write.contents c.args.device.now.inner) (g.W.Write.contents c.send_pieces.new.device.inner)) head (search rules)) (search rules) c.in-Err.ensures.ends
