use Rattle.ca_apgcode.specs.Prelude.{cell}
use Rattle.ca_import.specs.inner.Drawn.{IsDrawnTo}
use Rattle.ca_import.proofs.code_cells.draw_column.Given as goal

abbrev pub invariant-rows : goal.invariant-rows
invariant-rows l = IsDrawnTo (cell l.grid) l.fn.x l.y l.cells
