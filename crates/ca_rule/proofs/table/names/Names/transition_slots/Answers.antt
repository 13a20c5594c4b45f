use Rattle.std.proofs.Common.{[], ◌∷◌, length, sym, ap, subst, ◌∙◌, arith}
use Rattle.std.proofs.lemmas.List.{length-append}
use Rattle.ca_rule.specs.inner.TableFields.{fields_left}
use Rattle.ca_rule.specs.inner.TableNames.{number_in, AreSlots}
use Rattle.ca_rule.specs.inner.TableSlots.{slots_of}
use Rattle.ca_rule.proofs.FieldSlots.{slots-push, rest-spelled}
use Rattle.ca_rule.proofs.table.names.Names.transition_slots.Goals as goal

pub fields-preserved : goal.fields-preserved
fields-preserved c =
    let long = ap length c.push.ensures ∙ length-append (slots_of c.fields.slots) (c.in_ok-slot.slot ∷ []) in
    let next = ap length c.in-Some.ensures in
    let room = c.fields.invariant.2 in (
      subst (AreSlots c.args.states (number_in c.args.self.now) (fields_left c.args.fields.now) (fields_left c.in-Some.later)) (sym c.push.ensures)
          (slots-push c.args.states (number_in c.args.self.now) (fields_left c.args.fields.now) (fields_left c.fields.left) (fields_left c.in-Some.later) (slots_of c.fields.slots) c.in_ok-slot.slot c.in-Some.field.now c.fields.invariant.0 c.in-Some.ensures c.in_ok-slot.ensures.stands),
      rest-spelled (fields_left c.fields.left) (fields_left c.in-Some.later) c.in-Some.field.now c.in-Some.ensures c.fields.invariant.1,
      omega arith,
    )
