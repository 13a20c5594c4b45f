use Rattle.std.proofs.Common.{◌≡◌, ◌+◌, length}
use Rattle.ca_rule.specs.inner.TableFields.{fields_left}
use Rattle.ca_rule.proofs.table.fields.FieldsLeft.are_as_many_as.Given as goal

-- as many are needed as are left, or too many or too few
abbrev pub invariant-fields : goal.invariant-fields
invariant-fields l = length (fields_left l.left) + l.count ≡ length (fields_left l.self) + l.wanted

abbrev pub decreases-fields : goal.decreases-fields
decreases-fields l = length (fields_left l.left)
