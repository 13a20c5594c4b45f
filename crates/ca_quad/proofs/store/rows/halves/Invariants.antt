use Rattle.ca_quad.specs.inner.Rows.{IsWest, IsEast}
use Rattle.ca_quad.proofs.RowPlaces.{IsSoFar}
use Rattle.ca_quad.proofs.store.rows.halves.Given as goal

abbrev pub invariant-rows : goal.invariant-rows
invariant-rows l = IsSoFar l.cells l.rows (IsWest l.at.x) l.west.items l.row-index × IsSoFar l.cells l.rows (IsEast l.at.x) l.east.items l.row-index
