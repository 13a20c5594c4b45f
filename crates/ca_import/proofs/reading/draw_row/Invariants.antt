use Rattle.std.proofs.Common.{length}
use Rattle.ca_import.proofs.DrawnRows.{IsDrawn}
use Rattle.ca_import.proofs.reading.draw_row.Given as goal

abbrev pub invariant-cells : goal.invariant-cells
invariant-cells l = IsDrawn l.fn.first l.cells l.initial.plane l.at l.rest l.plane

abbrev pub decreases-cells : goal.decreases-cells
decreases-cells l = length l.rest
