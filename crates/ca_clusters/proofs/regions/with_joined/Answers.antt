use Rattle.std.proofs.Common.{◌≡◌, ◌+◌, ◌++◌, ◌∷◌, [], map, sym, ap, subst, arith}
use Rattle.std.specs.Prelude.{ℤ}
use Rattle.std.specs.List.{remove}
use Rattle.ca_plane.specs.Prelude.{Picture, cell}
use Rattle.ca_steps.specs.Prelude.{HasStates}
use Rattle.ca_parts.specs.Prelude.{together, plane_at}
use Rattle.ca_clusters.specs.inner.Regions.{IsRegion, AreSettledRegions, cells_of}
use Rattle.ca_clusters.proofs.JoinedRegions.{HasStates-sum, AreTwoRegions, two_regions, first_cells, second_cells, AreSettledRegions-joined}
use Rattle.ca_clusters.proofs.regions.with_joined.Goals as goal
use Rattle.ca_clusters.proofs.regions.with_joined.Goals.{In_ok-both}

-- the two planes are those of the two regions
module _ (g : _) (c : In_ok-both g) where
  first_is : cells_of c.remove-first.result ≡ plane_at (map cells_of c.args.regions.items) c.args.one
  first_is =
      first_cells c.args.regions.items c.remove-second.new.self.items c.args.one c.args.other c.remove-first.result
      c.requires.order c.requires.there c.remove-second.ensures.items c.remove-first.ensures.value

  second_is : cells_of c.remove-second.result ≡ plane_at (map cells_of c.args.regions.items) c.args.other
  second_is = second_cells c.args.regions.items c.args.other c.remove-second.result c.requires.there c.remove-second.ensures.value

  taken : AreTwoRegions (g.A.Automaton.state_count c.args.rule.now) (cells_of c.remove-first.result) (cells_of c.remove-second.result)
  taken =
      two_regions (g.A.Automaton.next_of c.args.rule.now) (g.A.Automaton.state_count c.args.rule.now) (together (map cells_of c.args.regions.items)) c.args.regions.items
      c.args.one c.args.other (cells_of c.remove-first.result) (cells_of c.remove-second.result) c.requires.order c.requires.there c.requires.regions first_is second_is

  -- what the one shows that is made of them
  both : (x y : ℤ) → cell c.in_ok-both.both x y ≡ cell (cells_of c.remove-first.result) x y + cell (cells_of c.remove-second.result) x y
  both = c.in_ok-both.ensures.both taken.disjoint

  states : HasStates (g.A.Automaton.state_count c.args.rule.now) c.in_ok-both.both
  states =
      HasStates-sum (g.A.Automaton.state_count c.args.rule.now) (cells_of c.remove-first.result) (cells_of c.remove-second.result) c.in_ok-both.both
      (omega (arith, c.states-states.ensures.value, c.states-states.ensures.low)) taken.disjoint both taken.first taken.second c.in_ok-both.ensures.sparse

pub settled_region-requires-clause-states : goal.settled_region-requires-clause-states
settled_region-requires-clause-states g c = states g (goal.at.settled_region-requires-clause-states g c).In_ok-both

pub returns-clause-regions : goal.returns-clause-regions
returns-clause-regions g c =
    let a = (goal.at.returns-clause-regions g c).In_ok-both in
    let next = g.A.Automaton.next_of c.args.rule.now in
    let count = g.A.Automaton.state_count c.args.rule.now in
    let cells = together (map cells_of c.args.regions.items) in
    let ps = map cells_of c.args.regions.items in
    let joined = c.in-Some.joined in
    let region : IsRegion next joined = rw c.in-Some.is at c.in_ok-joined.ensures.region in
    let same : cells_of joined ≡ c.in_ok-both.both = rw c.in-Some.is at c.in_ok-joined.ensures.cells in
    let shows : (x y : ℤ) → cell (cells_of joined) x y ≡ cell (plane_at ps c.args.one) x y + cell (plane_at ps c.args.other) x y =
    λ x y.
    let first = ap (λ (p : Picture). cell p x y) (first_is g a) in
    let second = ap (λ (p : Picture). cell p x y) (second_is g a) in
    let one = ap (λ (p : Picture). cell p x y) same in
    let sum = both g a x y in
    cc in
    let items : c.push.new.self.items ≡ remove (remove c.args.regions.items c.args.other) c.args.one ++ joined ∷ [] =
    cc (c.in_ok-push.ensures.items, c.remove-first.ensures.items, c.remove-second.ensures.items) in
    subst (AreSettledRegions next count cells) (sym items)
    (AreSettledRegions-joined next count cells c.args.regions.items c.args.one c.args.other joined c.requires.order c.requires.there c.requires.regions region
    (subst (HasStates count) (sym same) (states g a)) shows)
