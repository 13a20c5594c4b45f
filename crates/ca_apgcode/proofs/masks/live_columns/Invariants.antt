use Rattle.std.proofs.Common.{◌-◌, length}
use Rattle.ca_apgcode.proofs.LiveMasks.{ShowsFrom}
use Rattle.ca_apgcode.proofs.masks.live_columns.Given as goal

-- the last columns are in the mask
abbrev pub invariant-columns : goal.invariant-columns
invariant-columns l = ShowsFrom l.grid l.end (length l.grid.columns - l.n) l.mask
