use Rattle.std.proofs.Common.{length}
use Rattle.ca_macro.proofs.line.leaf.+fault_from.Given as goal

abbrev pub decreases-fault_from : goal.decreases-fault_from
decreases-fault_from l = length l.bytes.now
