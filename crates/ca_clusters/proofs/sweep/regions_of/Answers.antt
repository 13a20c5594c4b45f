use Rattle.std.proofs.Common.{sym, subst}
use Rattle.std.specs.List.{AllPairs}
use Rattle.ca_plane.specs.Prelude.{Picture, cell}
use Rattle.ca_parts.specs.Prelude.{AreApart}
use Rattle.ca_clusters.proofs.sweep.regions_of.Goals as goal

pub regions_at-requires : goal.regions_at-requires
regions_at-requires g c = subst (AllPairs (λ (p q : Picture). AreApart (cell p) (cell q))) (sym c.deref.ensures.value) c.in_ok-places.ensures.apart
