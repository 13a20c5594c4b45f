use Rattle.std.proofs.Common.{refl, subst, arith}
use Rattle.std.proofs.lemmas.Result.{on_ok_weaker, IfErr-weaker}
use Rattle.ca_rule.specs.Prelude.{fields_between, IsTransitionLine, no_statements}
use Rattle.ca_rule.specs.inner.TableFields.{fields_left}
use Rattle.ca_rule.specs.inner.TableNames.{number_in}
use Rattle.ca_rule.specs.inner.TableSettings.{meaning_of}
use Rattle.ca_rule.specs.inner.TableStatements.{IsStatement}
use Rattle.ca_rule.proofs.StatementsRead.{variable-behind, transition-behind, variable-fault, transition-fault}
use Rattle.ca_rule.proofs.table.statements.Statements.add.Goals as goal

pub add_variable-requires-clause-fields : goal.add_variable-requires-clause-fields
add_variable-requires-clause-fields c =
    let is = c.in-Some.ensures 0 (meaning_of c.args.settings.now) no_statements c.field_count-count.ensures.count in
    let k = subst (IsStatement (0, c.args.content.now) c.field_count-count.result) c.in-Variable.is is in k.are_fields

pub add_transition-requires-clause-fields : goal.add_transition-requires-clause-fields
add_transition-requires-clause-fields c =
    let is = c.in-Some.ensures 0 (meaning_of c.args.settings.now) no_statements c.field_count-count.ensures.count in
    let k = subst (IsStatement (0, c.args.content.now) c.field_count-count.result) c.in-Transition.is is in
    let count = k.count in
    let some = c.field_count-count.ensures.some in
    let few = c.field_count-count.ensures.few in record { some = omega arith; few = omega arith; spelled = k.are_fields }

pub returns-in-Variable-clause-said : goal.returns-in-Variable-clause-said
returns-in-Variable-clause-said c = on_ok_weaker c.add_variable.result (λ h n said kept.
    let is = subst (IsStatement (n, c.args.content.now) c.field_count-count.result) c.in-Variable.is (c.in-Some.ensures n (meaning_of c.args.settings.now) said c.field_count-count.ensures.count) in
    variable-behind (meaning_of c.args.settings.now) said (n, c.args.content.now) c.in-Variable.line.name.now (fields_between c.in-Variable.line.inside.now) c.add_variable.new.self is
    (h (meaning_of c.args.settings.now) said refl kept)) c.add_variable.ensures.said

pub returns-in-Variable-clause-fault : goal.returns-in-Variable-clause-fault
returns-in-Variable-clause-fault c = IfErr-weaker c.add_variable.result _ _ (λ f h n said kept.
    let is = subst (IsStatement (n, c.args.content.now) c.field_count-count.result) c.in-Variable.is (c.in-Some.ensures n (meaning_of c.args.settings.now) said c.field_count-count.ensures.count) in
    variable-fault (meaning_of c.args.settings.now) said c.args.settings.now.states (number_in c.args.self.now.names) refl kept.named (n, c.args.content.now) (fields_between c.in-Variable.line.inside.now) c.in-Variable.line.name.now f is h) c.add_variable.ensures.fault

pub returns-in-Transition-clause-said : goal.returns-in-Transition-clause-said
returns-in-Transition-clause-said c = on_ok_weaker c.add_transition.result (λ h n said kept.
    let is = subst (IsStatement (n, c.args.content.now) c.field_count-count.result) c.in-Transition.is (c.in-Some.ensures n (meaning_of c.args.settings.now) said c.field_count-count.ensures.count) in
    transition-behind (meaning_of c.args.settings.now) said (n, c.args.content.now) (fields_left c.in-Transition.fields) c.add_transition.new.self
    (subst (λ k. IsTransitionLine (n, c.args.content.now) k (fields_left c.in-Transition.fields)) c.field_count-count.ensures.count is)
    (h (meaning_of c.args.settings.now) said refl kept)) c.add_transition.ensures.said

pub returns-in-Transition-clause-fault : goal.returns-in-Transition-clause-fault
returns-in-Transition-clause-fault c = IfErr-weaker c.add_transition.result _ _ (λ f h n said kept.
    let is = subst (IsStatement (n, c.args.content.now) c.field_count-count.result) c.in-Transition.is (c.in-Some.ensures n (meaning_of c.args.settings.now) said c.field_count-count.ensures.count) in
    transition-fault (meaning_of c.args.settings.now) said c.args.settings.now.states (number_in c.args.self.now.names) refl kept.named (n, c.args.content.now) (fields_left c.in-Transition.fields) f
    (subst (λ k. IsTransitionLine (n, c.args.content.now) k (fields_left c.in-Transition.fields)) c.field_count-count.ensures.count is) h) c.add_transition.ensures.fault
