use Rattle.ca_budget.proofs.pace.+power_within.Given as goal

-- the powers of two that are still to try
abbrev pub decreases-power_within : goal.decreases-power_within
decreases-power_within l = l.digit
