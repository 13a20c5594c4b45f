use Rattle.ca_rle.proofs.RunByRun.{IsReadBefore}
use Rattle.ca_rle.proofs.write.runs.items.Given as goal

-- the cells so far are read
abbrev pub invariant-cells : goal.invariant-cells
invariant-cells l = IsReadBefore l.cells l.corner l.items.items l.run l.point-iterator
