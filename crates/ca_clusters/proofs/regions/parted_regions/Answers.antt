use Rattle.std.proofs.Common.{refl, subst}
use Rattle.std.specs.List.{AllPairs}
use Rattle.ca_clusters.specs.inner.Regions.{KeepClear}
use Rattle.ca_clusters.proofs.regions.parted_regions.Goals as goal

pub returns-clause-clear : goal.returns-clause-clear
returns-clause-clear g c = subst (AllPairs KeepClear) c.deref.ensures.value (c.in_default.ensures.clear refl)
