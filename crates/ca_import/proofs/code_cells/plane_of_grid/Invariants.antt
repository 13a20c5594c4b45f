use Rattle.ca_apgcode.specs.Prelude.{cell}
use Rattle.ca_import.specs.inner.Drawn.{IsDrawnTo}
use Rattle.ca_import.proofs.code_cells.plane_of_grid.Given as goal

abbrev pub invariant-columns : goal.invariant-columns
invariant-columns l = IsDrawnTo (cell l.grid) l.x 0 l.cells
