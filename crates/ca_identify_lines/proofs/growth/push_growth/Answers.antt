use Rattle.std.proofs.Common.{rules, w64, subst, ◌∙◌}
use Rattle.std.proofs.lemmas.Int.{to_z-of_z}
use Rattle.ca_plane.specs.Prelude.{Puts}
use Rattle.ca_report.proofs.After.{puts_then}
use Rattle.ca_identify_lines.proofs.growth.push_growth.Goals as goal

pub returns : goal.returns
returns c =
    let box = c.args.growth.bounds in
    let digits = subst (λ t. Puts c.args.out.now.items c.push_text.new.out.items t) (c.as_bytes.ensures.value ∙ c.format.ensures.text) c.in_ok-push_text.ensures in
    let word = subst (λ t. Puts c.push_text.new.out.items c.push_text-2.new.out.items t) c.cells_word.ensures c.in_ok-push_text-2.ensures in
    let all = puts_then _ _ _ _ _ _ digits (puts_then _ _ _ _ _ _ word (puts_then _ _ _ _ _ _ c.in_ok-push_text-3.ensures (puts_then _ _ _ _ _ _ c.in_ok-push_side.ensures (puts_then _ _ _ _ _ _ c.in_ok-push_text-4.ensures c.push_side-2.ensures)))) in
    rw (to_z-of_z w64 box.x0 (search rules), to_z-of_z w64 box.x1 (search rules), to_z-of_z w64 box.y0 (search rules), to_z-of_z w64 box.y1 (search rules)) at all
