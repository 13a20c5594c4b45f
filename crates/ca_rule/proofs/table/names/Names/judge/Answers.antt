use Rattle.std.proofs.Common.{[], ◌∷◌, ◌++◌}
use Rattle.ca_rule.specs.inner.TableFields.{fields_left}
use Rattle.ca_rule.specs.inner.TableNames.{number_in}
use Rattle.ca_rule.proofs.FieldSlots.{slots-push, rest-spelled}
use Rattle.ca_rule.proofs.table.names.Names.judge.Goals as goal

pub fields-preserved : goal.fields-preserved
fields-preserved c = (
  (
    c.fields.invariant.0.0 ++ c.in_ok-slot.field-0 ∷ [],
    slots-push c.args.states (number_in c.args.self.now) (fields_left c.args.fields.now) (fields_left c.fields.left) (fields_left c.in-Some.later) c.fields.invariant.0.0 c.in_ok-slot.field-0 c.in-Some.field.now c.fields.invariant.0.1 c.in-Some.ensures c.in_ok-slot.ensures.stands,
  ),
  rest-spelled (fields_left c.fields.left) (fields_left c.in-Some.later) c.in-Some.field.now c.in-Some.ensures c.fields.invariant.1,
)
