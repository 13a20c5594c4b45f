use Rattle.std.proofs.Common.{rules}
use Rattle.std.proofs.lemmas.Cmp.{then_total, on_total, int_cmp_total}
use Rattle.std.proofs.lemmas.List.Sorted.{ranks_by, answers_always}
use Rattle.std.specs.Cmp.{IsTotalOrder}
use Rattle.ca_plane.specs.declared.point.Bounds.{Bounds}
use Rattle.ca_census.specs.declared.entry.CensusObject.{CensusObject}
use Rattle.ca_census_runs.specs.Prelude.{corner_cmp, stands_before}
use Rattle.ca_census_runs.proofs.places.sort_by_place.Goals as goal

-- the order of corners
corners_total : IsTotalOrder corner_cmp
corners_total = then_total (on_total (λ (b : Bounds). b.y0) int_cmp_total) (on_total (λ (b : Bounds). b.x0) int_cmp_total)

pub returns : goal.returns
returns c =
    let ranks = ranks_by corners_total (λ (o : CensusObject). o.bounds) in
    record {
      same = c.sort_by.ensures.permutation;
      order = c.in_ok-sort_by.ensures.sorted stands_before ranks (answers_always _ _ _ (λ f a r g called. search rules));
      stable = c.sort_by.ensures.stable stands_before ranks (answers_always _ _ _ (λ f a r g called. search rules));
    }
