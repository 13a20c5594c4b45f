use Rattle.std.proofs.Common.{◌-◌}
use Rattle.ca_quad.proofs.store.rows.+search.Given as goal

abbrev pub decreases-search : goal.decreases-search
decreases-search l = l.end - l.first
