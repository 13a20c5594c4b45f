use Rattle.std.proofs.Common.{◌≡◌, map, sym, ap, ◌∙◌, subst}
use Rattle.std.specs.Prelude.{ℤ, replicate}
use Rattle.std.specs.List.{AllPairs}
use Rattle.ca_plane.specs.Prelude.{cell}
use Rattle.ca_parts.specs.Prelude.{together}
use Rattle.ca_clusters.specs.Clusters.{AreClusters}
use Rattle.ca_clusters.specs.inner.Regions.{AreRegionsOf, AreSettledRegions, KeepClear, cells_of}
use Rattle.ca_clusters.proofs.JoinedRegions.{AreSettledRegions-same}
use Rattle.ca_clusters.proofs.RegionClusters.{AreClusters-of_regions}
use Rattle.ca_clusters.proofs.regions.clusters_by_regions.Goals as goal

pub returns-in_ok-clusters_of-in-Some-3-clause-clusters : goal.returns-in_ok-clusters_of-in-Some-3-clause-clusters
returns-in_ok-clusters_of-in-Some-3-clause-clusters g c =
    let next = g.A.Automaton.next_of c.args.rule.now in
    let count = g.A.Automaton.state_count c.args.rule.now in
    let quiet : next (replicate 9 0) ≡ 0 = g.met.A.Automaton.quiet c.args.rule.now c.states-states.ensures.sound in
    let regions = c.in-Some-2.regions.items in
    let parted = c.in-Some-3.parted.items in
    let of_plane : AreRegionsOf c.args.plane.now c.in-Some.cells.items = rw c.in-Some.is at c.in_ok-cells.ensures.regions in
    let are : map cells_of regions ≡ c.in-Some.cells.items = rw c.in-Some-2.is at c.in_ok-regions.ensures.cells in
    let settled : AreSettledRegions next count (together (map cells_of regions)) parted = rw c.in-Some-3.is at c.in_ok-parted.ensures.regions in
    let clear : AllPairs KeepClear parted = rw c.in-Some-3.is at c.in_ok-parted.ensures.clear in
    let whole : (x y : ℤ) → cell c.args.plane.now x y ≡ together (map cells_of regions) x y = λ x y. of_plane.whole x y ∙ sym (ap (λ ps. together ps x y) are) in
    subst (AreClusters next (cell c.args.plane.now)) (sym c.in_ok-clusters_of-in-Some-3.ensures)
    (AreClusters-of_regions next quiet count (cell c.args.plane.now) parted
    (AreSettledRegions-same next count (cell c.args.plane.now) (together (map cells_of regions)) parted whole settled) clear)
