use Rattle.std.proofs.Common.{◌≡◌, ℕ, ◌≤◌, length, get_or}
use Rattle.ca_apgcode.proofs.grid.without_last_dead.Given as goal

-- the columns have the same cells
abbrev pub invariant-columns : goal.invariant-columns
invariant-columns l = record {
  same : (x : ℕ) → get_or l.columns.items x 0 ≡ get_or l.initial.columns.items x 0;
  width : length l.columns.items ≤ length l.initial.columns.items;
}

abbrev pub decreases-columns : goal.decreases-columns
decreases-columns l = length l.columns.items
