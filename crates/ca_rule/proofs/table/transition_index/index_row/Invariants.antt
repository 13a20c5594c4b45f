use Rattle.std.proofs.Common.{◌≡◌, length}
use Rattle.ca_rule.specs.inner.TransitionIndices.{IsIndexRow}
use Rattle.ca_rule.proofs.table.transition_index.index_row.Given as goal

-- the row so far is right
abbrev pub invariant-states : goal.invariant-states
invariant-states l = (length l.row ≡ 256) × IsIndexRow l.variables l.transitions l.slot l.row
