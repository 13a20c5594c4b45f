use Rattle.std.proofs.Common.{◌≡◌, length}
use Rattle.ca_rule.specs.inner.TableSearch.{placements_of}
use Rattle.ca_rule.specs.inner.TablePlaces.{next_at}
use Rattle.ca_rule.specs.inner.TransitionIndices.{AreIndices}
use Rattle.ca_rule.proofs.table.indexed.IndexedTransitions.next.Given as goal

-- the state lies with the transitions that are left
abbrev pub invariant-indices : goal.invariant-indices
invariant-indices l =
    (next_at l.self.variables (placements_of l.orders) l.nine l.self.transitions ≡ next_at l.self.variables (placements_of l.orders) l.nine l.left)
    × AreIndices l.self.variables l.left l.indices

abbrev pub decreases-indices : goal.decreases-indices
decreases-indices l = length l.indices
