use Rattle.std.proofs.Common.{subst}
use Rattle.ca_plane.specs.Prelude.{Puts}
use Rattle.ca_report.proofs.After.{puts_then}
use Rattle.ca_census_runs.specs.Prelude.{objects_words}
use Rattle.ca_census_runs.proofs.lines.push_settled.Goals as goal

pub returns : goal.returns
returns c =
    let word = subst (λ t. Puts c.push_counted.new.out.items c.push_text.new.out.items t) c.generations_word.ensures c.in_ok-push_text.ensures in
    let numbers = subst (λ objects. Puts c.push_text-2.new.out.items c.push_numbers.new.out.items (objects_words objects)) c.deref.ensures.value c.in_ok-push_numbers.ensures in
    puts_then _ _ _ _ _ _ c.in_ok-push_comment_head.ensures (puts_then _ _ _ _ _ _ c.in_ok-push_counted.ensures (puts_then _ _ _ _ _ _ word
    (puts_then _ _ _ _ _ _ c.in_ok-push_text-2.ensures (puts_then _ _ _ _ _ _ numbers c.push_text-3.ensures))))
