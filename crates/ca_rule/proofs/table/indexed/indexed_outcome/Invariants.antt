use Rattle.ca_rule.specs.inner.TableSearch.{placements_of}
use Rattle.ca_rule.specs.inner.TransitionIndices.{PassesOver}
use Rattle.ca_rule.proofs.table.indexed.indexed_outcome.Given as goal

-- the transitions whose bits are 0 give nothing
abbrev pub invariant-candidates : goal.invariant-candidates
invariant-candidates l = PassesOver l.variables l.nine (placements_of l.orders) l.transitions l.bits

abbrev pub decreases-candidates : goal.decreases-candidates
decreases-candidates l = l.bits
