use Rattle.std.proofs.Common.{length}
use Rattle.ca_clusters.proofs.MovedLists.{AreMovedBefore}
use Rattle.ca_clusters.proofs.shift.are_moved.Given as goal

-- the cells so far are moved
abbrev pub invariant-cells : goal.invariant-cells
invariant-cells l = AreMovedBefore l.from l.to l.shift.dx l.shift.dy (length l.yielded)
