use Rattle.std.proofs.Common.{arith}
use Rattle.ca_quad.proofs.RowPlaces.{row_made}
use Rattle.ca_quad.proofs.store.rows.row_from.Goals as goal

pub returns-clause-row : goal.returns-clause-row
returns-clause-row c =
    row_made c.args.cells.now c.requires.sparse c.args.first c.end_of.result c.row_of.result c.end_of.ensures c.row_of.ensures.y c.row_of.ensures.first
    (omega (arith, c.search-end.ensures.least, c.row_of.ensures.first, c.row_of.ensures.end)) (omega (arith, c.search-end.ensures.most, c.row_of.ensures.end))
    (λ i low high. c.search-end.ensures.before i low (omega (arith, c.row_of.ensures.end)))
