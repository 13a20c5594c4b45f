use Rattle.std.proofs.Common.{◌≡◌, length, sym, ap, ◌∙◌, arith}
use Rattle.std.specs.List.{list_all}
use Rattle.std.proofs.lemmas.Bool.Decides.{nat_tests}
use Rattle.ca_rule.specs.Prelude.{is_field}
use Rattle.ca_rule.specs.inner.TableFields.{fields_left}
use Rattle.ca_rule.proofs.table.statement.transition_fields.Goals as goal

pub returns-then-begins_variable : goal.returns-then-begins_variable
returns-then-begins_variable c = λ n fields t. let k = c.if-begins_variable.ensures n ∙ t.no_variable in cc

pub returns-then-not-are_as_many_as : goal.returns-then-not-are_as_many_as
returns-then-not-are_as_many_as c = λ n fields t.
    let same : length (fields_left c.of_line-fields.result) ≡ c.args.slots = ap length (c.of_line-fields.ensures n ∙ t.fields_are) ∙ t.count in grind (arith, nat_tests)

pub returns-then-not-are_spelled : goal.returns-then-not-are_spelled
returns-then-not-are_spelled c = λ n fields t. let k = c.if-not-are_spelled.ensures ∙ ap (list_all is_field) (c.of_line-fields.ensures n ∙ t.fields_are) ∙ t.are_fields in cc

pub returns : goal.returns
returns c = λ n.
    let same : length (fields_left c.of_line-fields.result) ≡ c.args.slots = grind (arith, nat_tests) in
    record {
      no_variable = sym (c.if-begins_variable.ensures n);
      fields_are = sym (c.of_line-fields.ensures n);
      are_fields = sym c.if-not-are_spelled.ensures;
      count = same;
    }
