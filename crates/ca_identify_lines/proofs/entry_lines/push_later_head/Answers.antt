use Rattle.std.proofs.Common.{subst}
use Rattle.ca_plane.specs.Prelude.{Puts}
use Rattle.ca_report.proofs.After.{puts_then}
use Rattle.ca_identify_lines.proofs.entry_lines.push_later_head.Goals as goal

pub returns : goal.returns
returns c =
    let word = subst (λ t. Puts c.push_counted.new.out.items c.push_text-2.new.out.items t) c.generations_word.ensures c.in_ok-push_text-2.ensures in
    puts_then _ _ _ _ _ _ c.in_ok-push_text.ensures (puts_then _ _ _ _ _ _ c.in_ok-push_escaped.ensures (puts_then _ _ _ _ _ _ c.in_ok-push_counted.ensures
    (puts_then _ _ _ _ _ _ word c.push_text-3.ensures)))
