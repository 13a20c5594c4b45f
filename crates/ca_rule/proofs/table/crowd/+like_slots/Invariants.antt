use Rattle.std.proofs.Common.{length}
use Rattle.ca_rule.proofs.table.crowd.+like_slots.Given as goal

abbrev pub decreases-like_slots : goal.decreases-like_slots
decreases-like_slots l = length l.slots.now
