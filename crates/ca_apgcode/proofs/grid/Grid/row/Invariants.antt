use Rattle.ca_apgcode.proofs.RowBits.{IsRowUpTo}
use Rattle.ca_apgcode.proofs.grid.Grid.row.Given as goal

-- the first columns are in the number
abbrev pub invariant-columns : goal.invariant-columns
invariant-columns l = IsRowUpTo l.self l.y l.x l.row
