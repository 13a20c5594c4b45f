use Rattle.std.proofs.Common.{◌∙◌}
use Rattle.ca_quad.specs.Prelude.{cell}
use Rattle.ca_rule.specs.Prelude.{rule_value}
use Rattle.ca_pattern.proofs.WrittenMeanings.{printed_ok}
use Rattle.ca_pattern.proofs.writing.text_of_squares.Goals as goal

pub returns-clause-written : goal.returns-clause-written
returns-clause-written c =
    printed_ok c.args.target (cell c.args.squares.store c.args.squares.tree) (rule_value c.args.rule.now) c.deref.result.now c.args.generation c.states.result
    (c.deref.ensures.value ∙ c.in-Ok.ensures.printed) c.states.ensures.value (λ v. v.items) c.text_of_tree.result c.text_of_tree.ensures.written
