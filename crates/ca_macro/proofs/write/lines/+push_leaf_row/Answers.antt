use Rattle.std.proofs.Common.{◌-◌, ◌/◌, ◌%◌, ◌==◌, ◌∷◌, [], ◌++◌, map, subst}
use Rattle.std.proofs.lemmas.Result.{on_ok_weaker}
use Rattle.ca_plane.specs.Prelude.{Puts}
use Rattle.ca_macro.specs.Prelude.{leaf_mark}
use Rattle.ca_macro.specs.inner.Written.{row_marks}
use Rattle.ca_macro.proofs.Lines.{puts_on, row_step}
use Rattle.ca_macro.proofs.write.lines.+push_leaf_row.Goals as goal

pub returns : goal.returns
returns t c =
    let more = map leaf_mark (row_marks (c.args.width - 1) (c.args.row / 2)) ++ 36 ∷ [] in
    let first = subst (λ m. Puts c.args.out.now.items c.push_text-2.new.out.items (m ∷ [])) c.mark.ensures c.in_ok-push_text.ensures in
    on_ok_weaker {P = Puts c.push_text-2.new.out.items c.push_leaf_row.new.out.items more} {Q = Puts c.args.out.now.items c.push_leaf_row.new.out.items (map leaf_mark (row_marks c.args.width c.args.row) ++ 36 ∷ [])} c.push_leaf_row.result
    (λ p. subst (Puts c.args.out.now.items c.push_leaf_row.new.out.items) (row_step c.args.width c.args.row (36 ∷ []) c.if-width-eq0.false c.if-row-eq0.false)
    (puts_on c.args.out.now.items c.push_text-2.new.out.items c.push_leaf_row.new.out.items (leaf_mark (c.args.row % 2 == 1) ∷ []) more first p)) c.push_leaf_row.ensures
