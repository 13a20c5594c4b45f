use Rattle.std.proofs.Common.{◌∙◌, sym, subst}
use Rattle.ca_plane.specs.Prelude.{Picture, cell, Sets}
use Rattle.ca_plane.proofs.Pictures.{IsListed-turn, cells_turn, cells_end, Sets-push}
use Rattle.ca_clusters.specs.inner.Regions.{IsCommon}
use Rattle.ca_clusters.proofs.SweptRegions.{IsCommon-more, IsCommon-states}
use Rattle.ca_clusters.proofs.sweep.common_cells.Goals as goal
use Rattle.ca_clusters.proofs.sweep.common_cells.Goals.{In-None}

pub places-preserved : goal.places-preserved
places-preserved c =
    let start = c.into_iter-at-iterator.ensures.into_iter_gives ∙ c.cells-at-items.ensures.all in
    let sparse = c.cells-at-items.ensures.sparse in
    let listed = IsListed-turn c.args.places.now _ _ _ _ _ _ sparse start c.places.yielded_by c.in-Some.is c.next.ensures.steps in
    let split = cells_turn c.args.places.now _ _ _ _ _ _ start c.places.yielded_by c.in-Some.is c.next.ensures.steps in
    record {
      common =
          IsCommon-more c.args.plane.now c.places.yielded c.places.common c.set.new.self (c.in-Some.at, c.in-Some.field-0-1) listed.low
          (Sets-push c.args.places.now c.places.yielded _ (c.in-Some.at, c.in-Some.field-0-1) sparse split)
          (subst (Sets c.places.common c.set.new.self c.in-Some.at) c.get.ensures c.in_ok-set.ensures.ok)
          c.places.invariant.common;
      sparse = c.set.ensures.sparse;
    }

-- the cells are those at all places
all_places : (c : In-None) → IsCommon c.args.plane.now (cell c.args.places.now) (cell c.places.common)
all_places c =
    let all = cells_end c.args.places.now _ _ _ _ _ (c.into_iter-at-iterator.ensures.into_iter_gives ∙ c.cells-at-items.ensures.all) c.places.yielded_by c.in-None.is c.next.ensures.steps in
    subst (λ (p : Picture). IsCommon c.args.plane.now (cell p) (cell c.places.common)) (sym all) c.places.invariant.common

pub returns-clause-states : goal.returns-clause-states
returns-clause-states c = λ count states.
    IsCommon-states c.args.plane.now c.places.common (cell c.args.places.now) count c.places.invariant.sparse (all_places (goal.at.returns-clause-states c).In-None) states
