use Rattle.std.proofs.Common.{◌≡◌, length, [], ◌∷◌, ◌++◌, if◌then◌else◌, refl, sym, ap, subst, ◌∙◌}
use Rattle.std.specs.Prelude.{filter}
use Rattle.std.specs.List.{list_any, AllZip, range_with_len}
use Rattle.ca_rule.specs.Prelude.{fields_between, admits, StandsFor, states_among, states_said}
use Rattle.ca_rule.specs.inner.TableFields.{fields_left}
use Rattle.ca_rule.specs.inner.TableNames.{number_in, IsFaultAmong}
use Rattle.ca_rule.proofs.FieldSlots.{on-ok}
use Rattle.ca_rule.proofs.SettingsRead.{passed-on}
use Rattle.ca_rule.proofs.StatementsSaid.{all-stand, variable-kept}
use Rattle.ca_rule.proofs.table.statements.Statements.add_variable.Goals as goal

pub returns-in_err-slots-clause-fault : goal.returns-in_err-slots-clause-fault
returns-in_err-slots-clause-fault c =
    passed-on c.from_residual.result c.in_err-slots.field-0.0 (IsFaultAmong c.args.states (number_in c.args.self.now.names) (fields_between c.args.line.now.inside.now)) c.from_residual.ensures.1
    (subst (λ fs. IsFaultAmong c.args.states (number_in c.args.self.now.names) fs c.in_err-slots.field-0.0) c.inside-fields.ensures c.in_err-slots.ensures.fault)

pub returns-clause-said : goal.returns-clause-said
returns-clause-said c = λ settings said same kept.
    let slots = c.in_ok-slots.slots.items in
    let old = c.args.self.now in
    let among : c.states_among-set.result ≡ states_among settings (states_said said) slots
    = c.states_among-set.ensures ∙ (λ i. filter (λ s. list_any (λ slot. admits ((c.deref.ensures.value ∙ sym kept.sets) i) slot s) (c.deref-2.ensures.value i)) (range_with_len 0 (sym same i))) in
    let long = old.variables.ok in
    let many : c.len-number.result ≡ old.variables.len = c.len-number.ensures in
    let counted : c.len-number.result ≡ length old.variables.items = cc in
    let items = c.push.ensures.items ∙ ap (λ b. if b then old.variables.items ++ c.states_among-set.result ∷ [] else old.variables.items) c.if-is_err.ensures.negation in (
      slots,
      subst (λ fs. AllZip (StandsFor settings said) fs slots) c.inside-fields.ensures
          (all-stand settings said c.args.states (number_in old.names) same kept.named (fields_left c.inside-fields.result) slots c.in_ok-slots.ensures.stand),
      variable-kept settings said old (record { names = c.put.new.self; variables = c.push.new.self; transitions = old.transitions }) c.args.line.now.name.now slots c.states_among-set.result c.len-number.result kept
          (on-ok c.put.result _ c.if-is_err-2.ensures.negation c.put.ensures) counted items among refl,
    )
