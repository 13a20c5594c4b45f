use Rattle.std.proofs.Common.{◌+◌, ◌*◌}
use Rattle.ca_run.proofs.leaper.Leaper.+from_grid.Given as goal

abbrev pub decreases-from_grid : goal.decreases-from_grid
decreases-from_grid g l = 2 * l.halvings

abbrev pub decreases-from_grid_parts : goal.decreases-from_grid_parts
decreases-from_grid_parts g l = 2 * l.halvings + 1
