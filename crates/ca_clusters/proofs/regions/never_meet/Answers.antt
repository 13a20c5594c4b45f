use Rattle.std.proofs.Common.{refl, arith}
use Rattle.std.proofs.lemmas.List.Elements.{AllWithin-more, at_read}
use Rattle.ca_clusters.specs.inner.Regions.{IsApartFromAll}
use Rattle.ca_clusters.proofs.regions.never_meet.Goals as goal

pub clusters-preserved : goal.clusters-preserved
clusters-preserved c =
    AllWithin-more (IsApartFromAll c.args.others.now) c.args.clusters.now 0 c.clusters.cluster-index c.clusters.invariant
    (at_read c.args.clusters.now (IsApartFromAll c.args.others.now) c.clusters.cluster-index c.cluster-item.result (omega arith) c.cluster-item.is (c.if-not-never_meets.ensures refl))

pub returns : goal.returns
returns c = λ is k d low. c.clusters.invariant k d (omega arith) (omega arith)
