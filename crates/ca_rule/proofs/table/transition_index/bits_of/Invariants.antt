use Rattle.std.proofs.Common.{◌≡◌, drop}
use Rattle.ca_rule.specs.inner.TransitionIndices.{TellsBefore}
use Rattle.ca_rule.proofs.table.transition_index.bits_of.Given as goal

-- the transitions from this one onwards are left, and the bits so far are right
abbrev pub invariant-transitions : goal.invariant-transitions
invariant-transitions l = (l.left ≡ drop l.at l.transitions) × TellsBefore l.variables l.transitions l.slot l.state l.bits l.at
