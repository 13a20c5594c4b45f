use Rattle.std.proofs.Common.{◌≡◌, ◌++◌, length}
use Rattle.std.specs.List.{All}
use Rattle.ca_plane.specs.Prelude.{Picture, IsSame, IsInPlane, IsSparse}
use Rattle.ca_plane.proofs.plane.Plane.from_cells.Given as goal

-- the plane shows the cells that were taken off the end
abbrev pub invariant-cells : goal.invariant-cells
invariant-cells l = record {
  taken : (t : Picture) × (l.initial.falling.items ≡ l.falling.items ++ t) × IsSame l.plane t;
  places : All (λ e. IsInPlane e.0) l.falling.items;
  sparse : IsSparse l.plane;
}

abbrev pub decreases-cells : goal.decreases-cells
decreases-cells l = length l.falling.items
