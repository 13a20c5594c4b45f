use Rattle.std.proofs.Common.{subst, sym}
use Rattle.std.specs.Result.{IfOk, IfErr}
use Rattle.ca_quad.specs.Prelude.{cell}
use Rattle.ca_pattern.specs.declared.format.Format.TheVariants.{Rle}
use Rattle.ca_pattern.specs.Prelude.{IsTidyTextOf, AreUnwritten}
use Rattle.ca_pattern.proofs.WrittenMeanings.{plane_is, plane_is_short, plane_is_writable, written_ok, unwritten_err, written_macro}
use Rattle.ca_pattern.proofs.format.text_of_tree.Goals as goal

pub rle_of_plane-requires-clause-writable : goal.rle_of_plane-requires-clause-writable
rle_of_plane-requires-clause-writable c =
    let is = plane_is _ _ _ _ c.in-Ok-Some.field-0-is c.in-Ok-Some.ensures in
    plane_is_writable c.args.store.now c.args.tree c.in-Ok-Some.cells c.args.rule_text.now c.args.generation c.args.states is c.requires

pub rle_of_plane-requires-clause-few : goal.rle_of_plane-requires-clause-few
rle_of_plane-requires-clause-few c =
    plane_is_short c.args.store.now c.args.tree c.in-Ok-Some.cells (plane_is _ _ _ _ c.in-Ok-Some.field-0-is c.in-Ok-Some.ensures)

pub returns-in-Ok-Some-clause-written : goal.returns-in-Ok-Some-clause-written
returns-in-Ok-Some-clause-written c =
    let is = plane_is _ _ _ _ c.in-Ok-Some.field-0-is c.in-Ok-Some.ensures in
    let cells = cell c.args.store.now c.args.tree in
    subst (λ t. IfOk c.rle_of_plane.result (λ text. IsTidyTextOf t cells c.args.rule_text.now c.args.generation c.args.states text.items)) (sym c.in-Rle.is)
    (written_ok _ cells is.shows Rle _ _ _ (λ v. v.items) c.rle_of_plane.result c.rle_of_plane.ensures.written)

pub returns-in-Ok-Some-clause-fault : goal.returns-in-Ok-Some-clause-fault
returns-in-Ok-Some-clause-fault c =
    let is = plane_is _ _ _ _ c.in-Ok-Some.field-0-is c.in-Ok-Some.ensures in
    let cells = cell c.args.store.now c.args.tree in
    subst (λ t. IfErr c.rle_of_plane.result (AreUnwritten t cells)) (sym c.in-Rle.is) (unwritten_err _ cells is.shows Rle c.rle_of_plane.result c.rle_of_plane.ensures.fault)

pub returns-in-Ok-clause-written : goal.returns-in-Ok-clause-written
returns-in-Ok-clause-written c =
    let text = c.in-Ok.text.items in
    let written = c.in-Ok.ensures in
    let cells = cell c.args.store.now c.args.tree in
    subst (λ t. IsTidyTextOf t cells c.args.rule_text.now c.args.generation c.args.states text) (sym c.in-Mc.is)
    (written_macro cells c.args.rule_text.now c.args.generation c.args.states text written.tidy written.means)
