use Rattle.std.proofs.Common.{[], ◌∷◌, ◌++◌, decimal, sym, ap, ◌∙◌, append_assoc}
use Rattle.ca_rule_files.proofs.PutTexts.{then-puts}
use Rattle.ca_rule_files.proofs.writing.push_transition.Goals as goal

pub returns : goal.returns
returns c =
    let old = c.args.out.now.items in
    let centred = c.push_state.new.out.items in
    let one = c.push_text.new.out.items in
    let two = c.push_text-2.new.out.items in
    let three = c.push_text-3.new.out.items in
    let four = c.push_text-4.new.out.items in
    let numbered = c.push_number.new.out.items in
    let last = c.push_text-5.new.out.items in
    let a = c.pair.result in
    let b = c.pair-2.result in
    let d = c.pair-3.result in
    let e = c.pair-4.result in
    let centre = decimal c.from.result in
    let result = decimal c.from-2.result in
    let bytes = ((a ++ b) ++ d) ++ e in
    let first = then-puts centred one two a b c.in_ok-push_text.ensures c.in_ok-push_text-2.ensures in
    let more = then-puts centred two three (a ++ b) d first c.in_ok-push_text-3.ensures in
    let ring = then-puts centred three four ((a ++ b) ++ d) e more c.in_ok-push_text-4.ensures in
    let with_result = then-puts centred four numbered bytes result ring c.in_ok-push_number.ensures in
    let ended = then-puts centred numbered last (bytes ++ result) (10 ∷ []) with_result c.in_ok-push_text-5.ensures in
    let all = then-puts old centred last (centre ++ 44 ∷ []) ((bytes ++ result) ++ 10 ∷ []) c.in_ok-push_state.ensures ended in
    record {
      whole = all.whole ∙ ap (λ l. old ++ l) (append_assoc centre (44 ∷ []) ((bytes ++ result) ++ 10 ∷ []) ∙ sym (append_assoc centre (44 ∷ (bytes ++ result)) (10 ∷ [])))
          ∙ (λ t. old ++ ((decimal (c.from.ensures t) ++ 44 ∷ ((((c.pair.ensures t ++ c.pair-2.ensures t) ++ c.pair-3.ensures t) ++ c.pair-4.ensures t) ++ decimal (c.from-2.ensures t))) ++ 10 ∷ []));
    }
