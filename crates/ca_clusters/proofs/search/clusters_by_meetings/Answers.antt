use Rattle.std.proofs.Common.{ℕ, ◌-◌, ◌^◌, List, map, refl, sym, subst, arith, rules, IsTrue}
use Rattle.std.specs.List.{All, AllPairs, Any}
use Rattle.std.proofs.lemmas.List.Elements.{All-same}
use Rattle.ca_plane.specs.Prelude.{cell}
use Rattle.ca_parts.specs.Prelude.{NeverMeet}
use Rattle.ca_clusters.specs.declared.part.Part.{Part}
use Rattle.ca_clusters.specs.Clusters.{AreClusters}
use Rattle.ca_clusters.specs.inner.Runs.{AreRuns, IsRunTo, LeavesAlone, origin}
use Rattle.ca_clusters.specs.inner.Encounters.{MeetFirst}
use Rattle.ca_clusters.proofs.FoundClusters.{AreRuns-later, LeavesAlone-part, AreClusters-found, enough_units}
use Rattle.ca_clusters.proofs.search.clusters_by_meetings.Goals as goal
use Rattle.ca_clusters.proofs.search.clusters_by_meetings.Goals.{In_ok-later, In-Meet}

module _ (g : _) (c : In_ok-later g) where
  -- the rule
  abbrev next : List ℕ → ℕ
  next = g.A.Automaton.next_of c.args.rule.now

  abbrev count : ℕ
  count = g.A.Automaton.state_count c.args.rule.now

  -- the parts that are run on are the plane too
  later_runs : AreRuns next count (cell c.args.plane.now) c.in_ok-later.later.items
  later_runs = AreRuns-later next count c.rounds.horizon (cell c.args.plane.now) c.rounds.parts.items c.in_ok-later.later.items c.rounds.invariant.runs c.in_ok-later.ensures.far c.in_ok-later.ensures.origins

-- two of them meet first
meeting : (g : _) (c : In-Meet g) → (n : ℕ) × MeetFirst (g.A.Automaton.next_of c.args.rule.now) c.in_ok-later.later.items c.in-Meet.one c.in-Meet.other n
meeting g c =
    subst (λ (parts : List Part). (n : ℕ) × MeetFirst (g.A.Automaton.next_of c.args.rule.now) parts c.in-Meet.one c.in-Meet.other n) c.deref.ensures.value
    (c.in-Meet.ensures (g.A.Automaton.next_of c.args.rule.now) (g.A.Automaton.state_count c.args.rule.now)
    (All-same (IsRunTo (g.A.Automaton.next_of c.args.rule.now) (g.A.Automaton.state_count c.args.rule.now) c.rounds.horizon)
    c.deref.result.now c.in_ok-later.later.items c.deref.ensures.value c.in_ok-later.ensures.far))

pub returns-in_err-later-clause-range : goal.returns-in_err-later-clause-range
returns-in_err-later-clause-range g c = λ out.
    let some : Any (λ (part : Part). LeavesAlone (g.A.Automaton.next_of c.args.rule.now) (origin part)) c.rounds.parts.items = search rules in
    LeavesAlone-part (g.A.Automaton.next_of c.args.rule.now) (g.A.Automaton.state_count c.args.rule.now) c.args.plane.now c.rounds.parts.items c.rounds.invariant.runs some

pub with_merged-requires-clause-order : goal.with_merged-requires-clause-order
with_merged-requires-clause-order g c = (meeting g (goal.at.with_merged-requires-clause-order g c).In-Meet).1.order

pub with_merged-requires-clause-there : goal.with_merged-requires-clause-there
with_merged-requires-clause-there g c = (meeting g (goal.at.with_merged-requires-clause-there g c).In-Meet).1.there

pub rounds-preserved-in-Meet : goal.rounds-preserved-in-Meet
rounds-preserved-in-Meet g c =
    let inv = c.rounds.invariant in
    let found = meeting g (goal.at.rounds-preserved-in-Meet g c).In-Meet in
    record {
      runs = c.in_ok-parts-in-Meet.ensures (cell c.args.plane.now) found.0 (later_runs g (goal.at.rounds-preserved-in-Meet g c).In_ok-later) found.1;
      some = inv.some;
      horizon = let horizon = inv.horizon in omega (arith, horizon, c.rounds-test.ensures.taken, c.in_ok-later.ensures.budget);
    }

pub returns-in-Never-clause-clusters : goal.returns-in-Never-clause-clusters
returns-in-Never-clause-clusters g c =
    let a = (goal.at.returns-in-Never-clause-clusters g c).In_ok-later in
    let never = c.in-Never.ensures (next g a) (count g a)
    (All-same (IsRunTo (next g a) (count g a) c.rounds.horizon) c.deref.result.now c.in_ok-later.later.items c.deref.ensures.value c.in_ok-later.ensures.far) in
    let back : All (λ (part : Part). IsTrue part.is_back) c.in_ok-later.later.items = subst (All (λ (part : Part). IsTrue part.is_back)) c.deref.ensures.value never.0 in
    let apart : AllPairs (NeverMeet (next g a)) (map origin c.in_ok-later.later.items) =
    subst (λ (parts : List Part). AllPairs (NeverMeet (next g a)) (map origin parts)) c.deref.ensures.value never.1 in
    subst (AreClusters (next g a) (cell c.args.plane.now)) (sym c.in_ok-courses_of-in-Never.ensures)
    (AreClusters-found (next g a) (count g a) (cell c.args.plane.now) c.in_ok-later.later.items (later_runs g a) back apart)

pub rounds-preserved : goal.rounds-preserved
rounds-preserved g c =
    let inv = c.rounds.invariant in
    let horizon = inv.horizon in
    let some = inv.some in
    let units = enough_units c.rounds.horizon c.in-NotYet.pairs c.max.result c.saturating_mul.result (2 ^ 64 - 1) (omega (arith, c.requires.most)) c.max.ensures c.saturating_mul.ensures in
    record {
      runs = later_runs g (goal.at.rounds-preserved g c).In_ok-later;
      some = omega arith;
      horizon = omega (arith, c.rounds-test.ensures.taken, c.in_ok-later.ensures.budget, c.if-not-take.ensures.taken refl);
    }
