use Rattle.std.proofs.Common.{◌-◌}
use Rattle.ca_run.proofs.leaper.Leaper.+padded_tree.Given as goal

-- the levels that are still to come
abbrev pub decreases-padded_tree : goal.decreases-padded_tree
decreases-padded_tree g l = l.level - l.tree.level
