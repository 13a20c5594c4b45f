use Rattle.std.proofs.Common.{◌≡◌, [], ◌∷◌, codes}
use Rattle.ca_plane.specs.Prelude.{words_of}
use Rattle.ca_import.proofs.Life105Lines.{unnamed_rule, rule_fault}
use Rattle.ca_import.proofs.life105.named_rule_line.Goals as goal

pub returns-in-None-clause-fault : goal.returns-in-None-clause-fault
returns-in-None-clause-fault c =
    let line = c.args.line.now in
    let text = c.in-Some.text.now in
    let first = c.in-Some.ensures.words in
    let none = c.in-None.ensures.words in
    let text_is = c.in-Some.text-is in
    let rest_is = c.in-Some.rest-is in
    let words : words_of line ≡ text ∷ [] = cc in
    rule_fault (codes "#R" ∷ words_of line) c.rule_line.result _ (unnamed_rule (words_of line) text words) c.rule_line.ensures
