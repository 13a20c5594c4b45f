use Rattle.std.proofs.Common.{take}
use Rattle.ca_clusters.specs.inner.Regions.{AreRegionsAt}
use Rattle.ca_clusters.proofs.sweep.regions_at.Given as goal

-- the regions so far are those at the places so far
abbrev pub invariant-places : goal.invariant-places
invariant-places l = AreRegionsAt l.plane (take l.place-index l.places) l.regions.items
