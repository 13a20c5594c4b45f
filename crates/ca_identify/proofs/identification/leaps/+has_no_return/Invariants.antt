use Rattle.std.proofs.Common.{◌-◌}
use Rattle.ca_identify.proofs.identification.leaps.+has_no_return.Given as goal

-- how much farther the last leap goes
abbrev pub decreases-has_no_return : goal.decreases-has_no_return
decreases-has_no_return g l = 64 - l.times
