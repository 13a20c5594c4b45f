use Rattle.ca_apgcode.proofs.RowBits.{AreRows}
use Rattle.ca_apgcode.proofs.grid.Grid.transposed.Given as goal

-- the first rows are columns
abbrev pub invariant-rows : goal.invariant-rows
invariant-rows l = AreRows l.self l.y l.columns.items
