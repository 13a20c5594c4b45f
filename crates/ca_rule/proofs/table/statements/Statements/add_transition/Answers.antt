use Rattle.std.proofs.Common.{◌≡◌, length, [], ◌∷◌, ◌++◌, if◌then◌else◌, refl, sym, ap, subst, ◌∙◌}
use Rattle.std.specs.List.{AllZip}
use Rattle.ca_rule.specs.Prelude.{StandsFor}
use Rattle.ca_rule.specs.inner.TableFields.{fields_left}
use Rattle.ca_rule.specs.inner.TableNames.{number_in}
use Rattle.ca_rule.specs.inner.TableSlots.{slots_of}
use Rattle.ca_rule.proofs.FieldSlots.{no-slots}
use Rattle.ca_rule.proofs.StatementsSaid.{all-stand, transition-kept}
use Rattle.ca_rule.proofs.table.statements.Statements.add_transition.Goals as goal

pub returns-in_default-clause-fault : goal.returns-in_default-clause-fault
returns-in_default-clause-fault c =
    absurd (no-slots c.args.states (number_in c.args.self.now.names) (fields_left c.args.fields.now) (slots_of c.in_ok-slots.slots) c.in_ok-slots.ensures.stand
    (ap length (sym c.all.ensures) ∙ c.in_default.ensures.cases) c.requires.fields.some)

pub returns-clause-said : goal.returns-clause-said
returns-clause-said c = λ settings said same kept.
    let old = c.args.self.now in
    let inputs = c.in-Some.inputs.now in
    let becomes = c.in-Some.becomes.now in
    let fields = fields_left c.args.fields.now in
    let whole : slots_of c.in_ok-slots.slots ≡ inputs ++ becomes ∷ [] = sym c.all.ensures ∙ c.in-Some.ensures.cases.0 in
    let copied : c.in-Ok.inputs.items ≡ inputs = c.in-Ok.ensures.items_if_clones_equal (λ x y e. e) in
    let items = c.push.ensures.items ∙ ap (λ b. if b then old.transitions.items ++ c.new-transition.result ∷ [] else old.transitions.items) c.if-is_err.ensures.negation in
    let pushed = items ∙ ap (λ t. old.transitions.items ++ t ∷ []) (c.new-transition.ensures ∙ ap (λ l. record { inputs = l; result = becomes }) copied) in (
      inputs,
      becomes,
      subst (AllZip (StandsFor settings said) fields) whole (all-stand settings said c.args.states (number_in old.names) same kept.named fields (slots_of c.in_ok-slots.slots) c.in_ok-slots.ensures.stand),
      sym c.if-not-is_bound.ensures,
      transition-kept said old (record { names = old.names; variables = old.variables; transitions = c.push.new.self }) inputs becomes kept refl refl pushed,
    )
