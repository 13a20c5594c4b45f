use Rattle.std.proofs.Common.{◌≡◌, ◌*◌, ◌-◌, ◌^◌, ◌≤◌, take}
use Rattle.ca_census_runs.specs.Prelude.{all_cells}
use Rattle.ca_census_runs.proofs.lines.all_cells.Given as goal

-- the cells of the objects so far were added, each of which has less than 2^64
abbrev pub invariant-objects : goal.invariant-objects
invariant-objects l = record {
  sum : l.cells ≡ all_cells (take l.object-index l.objects);
  small : l.cells ≤ l.object-index * (2 ^ 64 - 1);
}
