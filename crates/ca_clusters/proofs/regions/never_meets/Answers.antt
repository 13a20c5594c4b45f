use Rattle.std.proofs.Common.{refl, arith}
use Rattle.std.proofs.lemmas.List.Elements.{AllWithin-more, at_read}
use Rattle.ca_clusters.specs.inner.Earlier.{AreAlwaysApart}
use Rattle.ca_clusters.proofs.regions.never_meets.Goals as goal

pub others-preserved : goal.others-preserved
others-preserved c =
    AllWithin-more (AreAlwaysApart c.args.cluster.now) c.args.others.now 0 c.others.other-index c.others.invariant
    (at_read c.args.others.now (AreAlwaysApart c.args.cluster.now) c.others.other-index c.other-item.result (omega arith) c.other-item.is (c.if-not-never_meets_other.ensures refl))

pub returns : goal.returns
returns c = λ is k d low. c.others.invariant k d (omega arith) (omega arith)
