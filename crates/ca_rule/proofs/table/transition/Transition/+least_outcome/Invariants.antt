use Rattle.std.proofs.Common.{◌≡◌, ◌-◌, drop}
use Rattle.ca_rule.specs.Prelude.{picks}
use Rattle.ca_rule.specs.inner.TableSearch.{picked_outcome, LeadToNone}
use Rattle.ca_rule.specs.inner.TableChoice.{taken_of, free_of}
use Rattle.ca_rule.proofs.table.transition.Transition.+least_outcome.Given as goal

-- the outcome lies with the picks that are left, since those tried lead to none
abbrev pub invariant-places : goal.invariant-places
invariant-places l = record {
  left : picked_outcome l.variables l.nine l.self (taken_of l.choice) (l.count - 1) (picks (free_of l.choice))
      ≡ picked_outcome l.variables l.nine l.self (taken_of l.choice) (l.count - 1) (drop l.at (picks (free_of l.choice)));
  tried : LeadToNone l.variables l.nine l.self (taken_of l.choice) (l.count - 1) (free_of l.choice) l.at;
}

abbrev pub decreases-least_outcome : goal.decreases-least_outcome
decreases-least_outcome l = l.choice.free_count
