use Rattle.ca_parts.proofs.Partitions.{IsDividedBefore}
use Rattle.ca_parts.proofs.partition.parts.Given as goal

abbrev pub invariant-cells : goal.invariant-cells
invariant-cells l = IsDividedBefore l.reach l.plane l.left.items l.parts.items l.place
