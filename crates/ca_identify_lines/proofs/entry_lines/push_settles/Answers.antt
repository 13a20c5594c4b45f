use Rattle.std.proofs.Common.{subst}
use Rattle.ca_plane.specs.Prelude.{Puts}
use Rattle.ca_report.proofs.After.{puts_then}
use Rattle.ca_identify_lines.proofs.entry_lines.push_settles.Goals as goal

pub returns : goal.returns
returns c =
    let generations = subst (λ t. Puts c.push_counted.new.out.items c.push_text.new.out.items t) c.generations_word.ensures c.in_ok-push_text.ensures in
    let objects = subst (λ t. Puts c.push_counted-2.new.out.items c.push_text-2.new.out.items t) c.objects_word.ensures c.in_ok-push_text-2.ensures in
    rw c.in-Some.is (puts_then _ _ _ _ _ _ c.in_ok-push_comment_head.ensures (puts_then _ _ _ _ _ _ c.in_ok-push_counted.ensures (puts_then _ _ _ _ _ _ generations
    (puts_then _ _ _ _ _ _ c.in_ok-push_counted-2.ensures (puts_then _ _ _ _ _ _ objects c.push_text-3.ensures)))))
