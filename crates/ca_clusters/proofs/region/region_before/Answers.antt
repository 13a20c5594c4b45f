use Rattle.std.proofs.Common.{IfSome, subst}
use Rattle.ca_plane.specs.Prelude.{cell}
use Rattle.ca_clusters.specs.Clusters.{AreClusters}
use Rattle.ca_clusters.proofs.region.region_before.Goals as goal

pub returns-in-Ok-Some-clause-region : goal.returns-in-Ok-Some-clause-region
returns-in-Ok-Some-clause-region c = λ next quiet are.
    subst (λ found. IfSome found (λ v. AreClusters next (cell c.args.cells) v.items)) c.in-Ok-Some.field-0-is (c.in-Ok-Some.ensures.clusters next quiet are)
