use Rattle.std.proofs.Common.{◌-◌}
use Rattle.ca_quad.proofs.store.Store.+padded_for.Given as goal

abbrev pub decreases-padded_for : goal.decreases-padded_for
decreases-padded_for l = 67 - l.tree.level
