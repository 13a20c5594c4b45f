use Rattle.std.proofs.Common.{◌-◌, ◌≤◌}
use Rattle.ca_apgcode.proofs.LiveMasks.{ShowsBetween}
use Rattle.ca_apgcode.proofs.masks.live_rows.Given as goal

-- the columns so far are in the mask
abbrev pub invariant-columns : goal.invariant-columns
invariant-columns l = record { within : l.x ≤ l.end; shows : ShowsBetween l.grid (l.end - 5) l.x l.mask }
