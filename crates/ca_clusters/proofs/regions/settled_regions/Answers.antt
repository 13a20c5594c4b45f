use Rattle.std.proofs.Common.{◌≡◌, ◌++◌, ◌∷◌, [], map, arith}
use Rattle.std.proofs.lemmas.List.{map_push}
use Rattle.std.proofs.lemmas.List.Elements.{All-push, All-same}
use Rattle.ca_clusters.specs.declared.region.Region.{Region}
use Rattle.ca_clusters.specs.inner.Regions.{IsRegion, cells_of}
use Rattle.ca_clusters.proofs.regions.settled_regions.Goals as goal

pub regions-preserved : goal.regions-preserved
regions-preserved g c =
    let so_far = c.regions.invariant in
    let settled = c.in-Some-2.settled in
    let Settled : Region → Type 0 = IsRegion (g.A.Automaton.next_of c.args.rule.now) in
    let region : Settled settled = rw c.in-Some-2.is at c.in_ok-settled.ensures.region in
    let same : cells_of settled ≡ c.in-Some.region = rw c.in-Some-2.is at c.in_ok-settled.ensures.cells in
    record {
      can_next = tt;
      is_finite = tt;
      clusters = All-same Settled c.push.new.self.items (c.regions.regions.items ++ settled ∷ []) c.in_ok-push.ensures.items
          (All-push Settled c.regions.regions.items settled so_far.clusters region);
      cells =
          let before = map_push cells_of c.regions.regions.items settled in
          let earlier : map cells_of c.regions.regions.items ≡ c.regions.yielded = so_far.cells in
          cc c.in_ok-push.ensures.items;
      budget = let before = so_far.budget in omega (arith, before, c.in_ok-settled.ensures.budget);
    }
