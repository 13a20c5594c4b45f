use Rattle.std.proofs.Common.{ℕ, List, MatchOption, sym, ap, subst, ◌∙◌}
use Rattle.std.specs.List.{list_all}
use Rattle.ca_rule.specs.Prelude.{is_name, is_field, fields_between, IsVariableLine}
use Rattle.ca_rule.proofs.VariableLines.{read-name, read-braces, read-fields, read-line}
use Rattle.ca_rule.proofs.table.variable_line.variable_line.Goals as goal

pub returns-then-not-begins_variable : goal.returns-then-not-begins_variable
returns-then-not-begins_variable c = λ n name fields v. let k = c.if-not-begins_variable.ensures n ∙ v.begins in cc

pub returns-in_err-inside : goal.returns-in_err-inside
returns-in_err-inside c = λ n.
    subst (λ o. MatchOption o ((name : List ℕ) (fields : List (List ℕ)) → IsVariableLine (n, c.args.content.now) name fields → ⊥) (λ v. IsVariableLine (n, c.args.content.now) v.name.now (fields_between v.inside.now))) (sym c.from_residual-in_err-inside.ensures)
    (λ name fields v. c.in_err-inside.ensures v.inside (read-braces (n, c.args.content.now) c.in_ok-tail_after.field-0.now c.split_blanks.result.1.now c.split_name.result.0.now c.split_name.result.1.now c.in_ok-tail_after.ensures c.split_blanks.ensures.rest c.split_name.ensures.front c.split_name.ensures.rest name fields v))

pub returns-then-not-is_name : goal.returns-then-not-is_name
returns-then-not-is_name c = λ n name fields v. let k = c.if-not-is_name.ensures ∙ ap is_name (read-name (n, c.args.content.now) c.in_ok-tail_after.field-0.now c.split_blanks.result.1.now c.split_name.result.0.now c.split_name.result.1.now c.in_ok-tail_after.ensures c.split_blanks.ensures.rest c.split_name.ensures.front c.split_name.ensures.rest name fields v) ∙ v.named in cc

pub returns-then-not-are_spelled : goal.returns-then-not-are_spelled
returns-then-not-are_spelled c = λ n name fields v.
    let k = c.if-not-are_spelled.ensures ∙ ap (list_all is_field) c.inside.ensures ∙ read-fields (n, c.args.content.now) c.in_ok-tail_after.field-0.now c.split_blanks.result.1.now c.split_name.result.0.now c.split_name.result.1.now c.in_ok-tail_after.ensures c.split_blanks.ensures.rest c.split_name.ensures.front c.split_name.ensures.rest name c.in_ok-inside.inside.now fields v c.in_ok-inside.ensures in cc

pub returns : goal.returns
returns c = λ n.
    read-line (n, c.args.content.now) c.in_ok-tail_after.field-0.now c.split_blanks.result.1.now c.split_name.result.0.now c.split_name.result.1.now c.in_ok-tail_after.ensures c.split_blanks.ensures.rest c.split_name.ensures.front c.split_name.ensures.rest c.in_ok-inside.inside.now (sym (c.if-not-begins_variable.ensures n)) c.in_ok-inside.ensures (sym c.if-not-is_name.ensures) (sym (c.if-not-are_spelled.ensures ∙ ap (list_all is_field) c.inside.ensures))
