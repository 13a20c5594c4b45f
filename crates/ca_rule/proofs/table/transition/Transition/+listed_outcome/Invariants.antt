use Rattle.std.proofs.Common.{length}
use Rattle.ca_rule.proofs.table.transition.Transition.+listed_outcome.Given as goal

abbrev pub decreases-listed_outcome : goal.decreases-listed_outcome
decreases-listed_outcome l = length l.placements.now
