use Rattle.std.proofs.Common.{◌≡◌, length}
use Rattle.std.specs.List.{list_all}
use Rattle.ca_rule.specs.Prelude.{is_field}
use Rattle.ca_rule.specs.inner.TableFields.{fields_left}
use Rattle.ca_rule.proofs.table.fields.FieldsLeft.are_spelled.Given as goal

-- the answer lies with the fields that are left
abbrev pub invariant-fields : goal.invariant-fields
invariant-fields l = list_all is_field (fields_left l.self) ≡ list_all is_field (fields_left l.left)

abbrev pub decreases-fields : goal.decreases-fields
decreases-fields l = length (fields_left l.left)
