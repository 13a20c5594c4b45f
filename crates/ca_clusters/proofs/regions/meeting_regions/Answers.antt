use Rattle.std.proofs.Common.{refl, subst, arith}
use Rattle.std.specs.List.{AllPairs}
use Rattle.std.proofs.lemmas.List.{take_all}
use Rattle.ca_clusters.specs.inner.Regions.{KeepClear}
use Rattle.ca_clusters.proofs.ApartCourses.{pairs_before_more}
use Rattle.ca_clusters.proofs.regions.meeting_regions.Goals as goal

pub regions-preserved : goal.regions-preserved
regions-preserved c =
    pairs_before_more KeepClear c.args.regions.now c.regions.other c.index-regions-other.result (omega arith) c.index-regions-other.is c.regions.invariant
    (c.in_default.ensures.clear refl)

pub returns-clause-clear : goal.returns-clause-clear
returns-clause-clear c = λ is. subst (AllPairs KeepClear) (take_all c.regions.other c.args.regions.now (omega arith)) c.regions.invariant
