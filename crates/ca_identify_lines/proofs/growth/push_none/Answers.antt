use Rattle.std.proofs.Common.{subst}
use Rattle.ca_plane.specs.Prelude.{Puts}
use Rattle.ca_report.proofs.After.{puts_then}
use Rattle.ca_identify_lines.proofs.growth.push_none.Goals as goal

pub returns : goal.returns
returns c =
    let word = subst (λ t. Puts c.push_counted.new.out.items c.push_text.new.out.items t) c.generations_word.ensures c.in_ok-push_text.ensures in
    puts_then _ _ _ _ _ _ c.in_ok-push_counted.ensures (puts_then _ _ _ _ _ _ word (puts_then _ _ _ _ _ _ c.in_ok-push_text-2.ensures (puts_then _ _ _ _ _ _ c.in_ok-push_growth.ensures c.push_counted-2.ensures)))
