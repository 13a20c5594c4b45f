use Rattle.std.proofs.Common.{◌-◌}
use Rattle.ca_quad.proofs.store.from_plane.+level_from.Given as goal

abbrev pub decreases-level_from : goal.decreases-level_from
decreases-level_from l = 65 - l.level
