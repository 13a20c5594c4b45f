use Rattle.ca_plane.specs.Prelude.{Picture}
use Rattle.ca_quad.specs.inner.Rows.{AreRows, IsNorth, IsSouth}
use Rattle.ca_quad.proofs.RowPlaces.{IsSoFar}
use Rattle.ca_quad.proofs.store.rows.bands.Given as goal

abbrev pub invariant-rows : goal.invariant-rows
invariant-rows l = (p : Picture) → AreRows p l.rows → IsSoFar p l.rows (IsNorth l.at.y) l.north.items l.row-index × IsSoFar p l.rows (IsSouth l.at.y) l.south.items l.row-index
