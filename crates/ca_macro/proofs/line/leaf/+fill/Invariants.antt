use Rattle.std.proofs.Common.{length}
use Rattle.ca_macro.proofs.line.leaf.+fill.Given as goal

abbrev pub decreases-fill : goal.decreases-fill
decreases-fill l = length l.rows.now
