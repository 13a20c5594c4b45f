use Rattle.std.proofs.Common.{◌-◌}
use Rattle.ca_macro.proofs.write.root.+pad_to.Given as goal

abbrev pub decreases-pad_to : goal.decreases-pad_to
decreases-pad_to l = l.least - l.tree.level
