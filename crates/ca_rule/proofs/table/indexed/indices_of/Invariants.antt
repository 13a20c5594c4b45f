use Rattle.std.proofs.Common.{◌≡◌, ◌*◌, length, drop}
use Rattle.ca_rule.specs.inner.TransitionIndices.{AreIndices}
use Rattle.ca_rule.proofs.table.indexed.indices_of.Given as goal

-- there are indices of the transitions before those that are left
abbrev pub invariant-indices : goal.invariant-indices
invariant-indices l = (l.left ≡ drop (64 * length l.indices.items) l.transitions) × AreIndices l.variables l.transitions l.indices.items

abbrev pub decreases-indices : goal.decreases-indices
decreases-indices l = length l.left
