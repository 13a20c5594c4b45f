use Rattle.std.proofs.Common.{◌≡◌, length}
use Rattle.ca_rule.specs.inner.TransitionIndices.{IsIndex}
use Rattle.ca_rule.proofs.table.transition_index.TransitionIndex.of.Given as goal

-- there is a row for each of the slots before this one
abbrev pub invariant-slots : goal.invariant-slots
invariant-slots l = (length l.rows.items ≡ l.slot) × IsIndex l.variables l.transitions l.rows.items
