use Rattle.std.proofs.Common.{length}
use Rattle.ca_macro.proofs.line.leaf.+row_bits.Given as goal

abbrev pub decreases-row_bits : goal.decreases-row_bits
decreases-row_bits l = length l.cells.now
