use Rattle.std.proofs.Common.{◌≡◌, ◌+◌, ◌++◌, ◌∷◌, [], map, sym, ap, ◌∙◌, subst}
use Rattle.std.specs.Prelude.{ℤ}
use Rattle.std.specs.List.{remove}
use Rattle.ca_plane.specs.Prelude.{Picture, cell}
use Rattle.ca_parts.specs.Prelude.{plane_at}
use Rattle.ca_clusters.specs.inner.Runs.{AreRuns, origin}
use Rattle.ca_clusters.proofs.MergedRuns.{AreRuns-merged, IsLive-both, HasStates-both, AreTaken, AreTaken-at, first_taken, second_taken}
use Rattle.ca_clusters.proofs.merging.with_merged.Goals as goal
use Rattle.ca_clusters.proofs.merging.with_merged.Goals.{In_ok-both}

-- the two planes are those with which the two parts begin
module _ (g : _) (c : In_ok-both g) where
  first_is : c.plane.result.now ≡ plane_at (map origin c.args.parts.items) c.args.one
  first_is =
      c.plane.ensures
      ∙ first_taken c.args.parts.items c.remove-second.new.self.items c.args.one c.args.other c.remove-first.result
      c.requires.order c.requires.there c.remove-second.ensures.items c.remove-first.ensures.value

  second_is : c.plane-2.result.now ≡ plane_at (map origin c.args.parts.items) c.args.other
  second_is = c.plane-2.ensures ∙ second_taken c.args.parts.items c.args.other c.remove-second.result c.requires.there c.remove-second.ensures.value

  taken : AreTaken (g.A.Automaton.state_count c.args.rule.now) c.plane.result.now c.plane-2.result.now
  taken =
      AreTaken-at (g.A.Automaton.next_of c.args.rule.now) (g.A.Automaton.state_count c.args.rule.now) c.args.parts.items c.args.one c.args.other
      c.plane.result.now c.plane-2.result.now c.requires.order c.requires.there c.requires.runs c.requires.disjoint first_is second_is

  -- what the one shows that is made of them
  both : (x y : ℤ) → cell c.in_ok-both.both x y ≡ cell c.plane.result.now x y + cell c.plane-2.result.now x y
  both = c.in_ok-both.ensures.both taken.disjoint

pub first_part-requires-clause-live : goal.first_part-requires-clause-live
first_part-requires-clause-live g c =
    let a = (goal.at.first_part-requires-clause-live g c).In_ok-both in
    let two = taken g a in
    IsLive-both c.plane.result.now c.plane-2.result.now c.in_ok-both.both two.disjoint (both g a) two.live

pub first_part-requires-clause-states : goal.first_part-requires-clause-states
first_part-requires-clause-states g c =
    let a = (goal.at.first_part-requires-clause-states g c).In_ok-both in
    let two = taken g a in
    HasStates-both c.plane.result.now c.plane-2.result.now c.in_ok-both.both two.disjoint (both g a)
    (g.A.Automaton.state_count c.args.rule.now) two.live two.first two.second c.in_ok-both.ensures.sparse

pub returns : goal.returns
returns g c = λ cells n runs first.
    let a = (goal.at.returns g c).In_ok-both in
    let ps = map origin c.args.parts.items in
    let part = c.in_ok-first_part.field-0 in
    let begins : origin part ≡ c.in_ok-both.both = c.in_ok-first_part.ensures.first in
    let shows : (x y : ℤ) → cell (origin part) x y ≡ cell (plane_at ps c.args.one) x y + cell (plane_at ps c.args.other) x y =
    λ x y.
    let first = ap (λ (p : Picture). cell p x y) (first_is g a) in
    let second = ap (λ (p : Picture). cell p x y) (second_is g a) in
    let one = ap (λ (p : Picture). cell p x y) begins in
    let sum = both g a x y in
    cc in
    let items : c.push.new.self.items ≡ remove (remove c.args.parts.items c.args.other) c.args.one ++ part ∷ [] =
    cc (c.in_ok-push.ensures.items, c.remove-first.ensures.items, c.remove-second.ensures.items) in
    subst (AreRuns (g.A.Automaton.next_of c.args.rule.now) (g.A.Automaton.state_count c.args.rule.now) cells) (sym items)
    (AreRuns-merged (g.A.Automaton.next_of c.args.rule.now) c.requires.quiet (g.A.Automaton.state_count c.args.rule.now) cells c.args.parts.items c.args.one c.args.other n part
    runs first c.in_ok-first_part.ensures.run shows)
