use Rattle.ca_apgcode.proofs.ColumnBits.{AreFlipped}
use Rattle.ca_apgcode.proofs.grid.Grid.flipped.Given as goal

-- the first columns are the other way up
abbrev pub invariant-columns : goal.invariant-columns
invariant-columns l = AreFlipped l.self l.column-index l.columns.items
