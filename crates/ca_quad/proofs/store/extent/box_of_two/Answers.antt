use Rattle.std.proofs.Common.{refl, subst}
use Rattle.ca_quad.specs.inner.Extent.{IsSquareExtent}
use Rattle.ca_quad.proofs.Extents.{east_only, both}
use Rattle.ca_quad.proofs.store.extent.box_of_two.Goals as goal

pub returns-in_default-west : goal.returns-in_default-west
returns-in_default-west c = λ w e rows p q.
    east_only c.args.side rows c.requires w e c.in-Some.east _ (subst (IsSquareExtent e c.args.side rows) c.in-Some.is q) c.saturating_add-right.ensures
    (subst (IsSquareExtent w c.args.side rows) c.in_default-west.is p) c.saturating_add-left.ensures refl refl

pub returns : goal.returns
returns c = λ w e rows p q.
    both c.args.side rows c.requires w e c.in-Some.east _ (subst (IsSquareExtent e c.args.side rows) c.in-Some.is q) c.saturating_add-right.ensures
    c.in-Some-west.west (subst (IsSquareExtent w c.args.side rows) c.in-Some-west.is p) refl c.min.ensures c.max.ensures
