use Rattle.std.proofs.Common.{[], ◌∷◌, ◌++◌, if◌then◌else◌, sym, ap, subst, ◌∙◌}
use Rattle.ca_rule.specs.inner.TableFields.{fields_left}
use Rattle.ca_rule.specs.inner.TableNames.{number_in, AreSlots}
use Rattle.ca_rule.proofs.FieldSlots.{slots-push, rest-spelled}
use Rattle.ca_rule.proofs.table.names.Names.slots.Goals as goal

pub fields-preserved : goal.fields-preserved
fields-preserved c =
    let items = c.push.ensures.items ∙ ap (λ b. if b then c.fields.slots.items ++ c.in_ok-slot.slot ∷ [] else c.fields.slots.items) c.if-is_err.ensures.negation in (
      subst (AreSlots c.args.states (number_in c.args.self.now) (fields_left c.args.fields.now) (fields_left c.in-Some.later)) (sym items)
          (slots-push c.args.states (number_in c.args.self.now) (fields_left c.args.fields.now) (fields_left c.fields.left) (fields_left c.in-Some.later) c.fields.slots.items c.in_ok-slot.slot c.in-Some.field.now c.fields.invariant.0 c.in-Some.ensures c.in_ok-slot.ensures.stands),
      rest-spelled (fields_left c.fields.left) (fields_left c.in-Some.later) c.in-Some.field.now c.in-Some.ensures c.fields.invariant.1,
    )
