use Rattle.std.proofs.Common.{◌-◌, ◌≤◌}
use Rattle.ca_identify.proofs.identification.search.power_within.Given as goal

abbrev pub invariant-doublings : goal.invariant-doublings
invariant-doublings l = record { some : 1 ≤ l.power; within : l.power ≤ l.number }

abbrev pub decreases-doublings : goal.decreases-doublings
decreases-doublings l = l.number - l.power
