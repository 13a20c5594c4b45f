use Rattle.std.proofs.Common.{◌≡◌, ◌<◌, ◌+◌, ◌++◌, ap, ◌∙◌, ◌∷◌, [], length, take, sym, subst, arith}
use Rattle.ca_plane.specs.Prelude.{Picture}
use Rattle.ca_clusters.specs.inner.Regions.{AreRegionsAt}
use Rattle.ca_clusters.proofs.SweptRegions.{AreRegionsAt-more, AreRegionsAt-empty}
use Rattle.ca_clusters.proofs.sweep.regions_at.Goals as goal
use Rattle.ca_clusters.proofs.sweep.regions_at.Goals.{then-not-is_empty+in_ok-push, else-not-is_empty}

pub places-preserved : goal.places-preserved
places-preserved c =
    let plane : Picture = c.args.plane.now in
    let i = c.places.place-index in
    let p : Picture = c.place-item.result in
    let r : Picture = c.in_ok-region.region in
    let low : i < length c.args.places.now = omega arith in
    elim c.if-not-is_empty.branch [
      | then-not-is_empty+in_ok-push w ↦
          let items : c.if-not-is_empty.regions.items ≡ c.places.regions.items ++ r ∷ [] = ap (λ v. v.items) w.regions-is ∙ w.in_ok-push.ensures.items in
          subst (AreRegionsAt plane (take (i + 1) c.args.places.now)) (sym items)
          (AreRegionsAt-more plane c.args.places.now c.places.regions.items i p r c.requires low c.place-item.is c.in_ok-region.ensures.common c.places.invariant c.in_ok-region.ensures.states)
      | else-not-is_empty w ↦
          let items : c.if-not-is_empty.regions.items ≡ c.places.regions.items = ap (λ v. v.items) w.regions-is in
          subst (AreRegionsAt plane (take (i + 1) c.args.places.now)) (sym items)
          (AreRegionsAt-empty plane c.args.places.now c.places.regions.items i p r c.requires low c.place-item.is c.in_ok-region.ensures.common c.places.invariant
          (c.is_empty.ensures.empty.0 w.if-not-is_empty.false))
    ]
