use Rattle.std.proofs.Common.{◌≡◌, length}
use Rattle.ca_rule.specs.inner.TableSearch.{placements_of}
use Rattle.ca_rule.specs.inner.TablePlaces.{next_at}
use Rattle.ca_rule.proofs.table.indexed.first_outcome.Given as goal

-- the state lies with the transitions that are left
abbrev pub invariant-transitions : goal.invariant-transitions
invariant-transitions l =
    next_at l.variables (placements_of l.orders) l.nine l.transitions ≡ next_at l.variables (placements_of l.orders) l.nine l.left

abbrev pub decreases-transitions : goal.decreases-transitions
decreases-transitions l = length l.left
