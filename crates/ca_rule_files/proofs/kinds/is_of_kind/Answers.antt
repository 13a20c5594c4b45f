use Rattle.std.proofs.Common.{ap, ◌∙◌}
use Rattle.std.specs.List.{list_any}
use Rattle.std.specs.Str.{bytes_eq}
use Rattle.ca_rule_files.specs.Prelude.{mirrored, turns, neighbours}
use Rattle.ca_rule_files.proofs.PutTexts.{first-any, later-any}
use Rattle.ca_rule_files.proofs.kinds.is_of_kind.Goals as goal

pub returns-then-is_turn_of : goal.returns-then-is_turn_of
returns-then-is_turn_of c =
    let example = c.args.kind.now.example in
    first-any (λ oriented. bytes_eq (neighbours oriented) (neighbours c.args.nine.now)) (turns example) (turns (mirrored example)) c.is_turn_of.result c.is_turn_of.ensures c.if-is_turn_of.true

pub returns-else-is_turn_of : goal.returns-else-is_turn_of
returns-else-is_turn_of c =
    let example = c.args.kind.now.example in
    later-any (λ oriented. bytes_eq (neighbours oriented) (neighbours c.args.nine.now)) (turns example) (turns (mirrored example)) c.is_turn_of.result c.is_turn_of-else-is_turn_of.result c.is_turn_of.ensures c.if-is_turn_of.false
    (c.is_turn_of-else-is_turn_of.ensures ∙ ap (λ m. list_any (λ oriented. bytes_eq (neighbours oriented) (neighbours c.args.nine.now)) (turns m)) c.mirrored.ensures)
