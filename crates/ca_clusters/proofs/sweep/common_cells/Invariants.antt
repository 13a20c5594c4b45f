use Rattle.ca_plane.specs.Prelude.{cell, IsSparse}
use Rattle.ca_clusters.specs.inner.Regions.{IsCommon}
use Rattle.ca_clusters.proofs.sweep.common_cells.Given as goal

-- the cells at the places so far
abbrev pub invariant-places : goal.invariant-places
invariant-places l = record {
  common : IsCommon l.fn.plane (cell l.yielded) (cell l.common);
  sparse : IsSparse l.common;
}
