use Rattle.std.proofs.Common.{◌≡◌, ◌++◌, ◌∷◌, [], length, map, sym, ◌∙◌, rules, map-id}
use Rattle.std.specs.List.{Contains}
use Rattle.std.proofs.lemmas.List.{map_push}
use Rattle.std.proofs.lemmas.List.Elements.{All-push, All-same}
use Rattle.std.proofs.lemmas.Iterator.Consumers.{YieldsList-turn, YieldsList-end}
use Rattle.std.proofs.lemmas.Iterator.Adapters.{YieldsList-from_vec}
use Rattle.ca_plane.specs.Prelude.{cell}
use Rattle.ca_clusters.specs.declared.part.Part.{Part}
use Rattle.ca_clusters.specs.inner.Runs.{IsRun, origin}
use Rattle.ca_clusters.proofs.FoundClusters.{states_of_part, component_live, AreRuns-first}
use Rattle.ca_clusters.proofs.search.first_parts.Goals as goal
use Rattle.ca_clusters.proofs.search.first_parts.Goals.{In-Some}

-- the next component is one of the plane's
has : (g : _) (c : In-Some g) → Contains c.in_ok-component-items.component-items.items c.in-Some.component
has g c =
    let turn = YieldsList-turn (YieldsList-from_vec {s = c.into_iter-component-iterator.result} c.in_ok-component-items.component-items.items (search rules) (search rules))
    c.components.yielded c.components.component-iterator c.components.yielded_by c.next.result c.next.new.self c.in-Some.component c.in-Some.is c.next.ensures.steps in
    (length c.components.yielded, turn.0, sym turn.1)

pub first_part-requires-clause-live : goal.first_part-requires-clause-live
first_part-requires-clause-live g c =
    component_live (cell c.args.plane.now) c.in_ok-component-items.component-items.items c.in-Some.component c.in_ok-component-items.ensures
    (has g (goal.at.first_part-requires-clause-live g c).In-Some)

pub first_part-requires-clause-states : goal.first_part-requires-clause-states
first_part-requires-clause-states g c =
    let in_plane = has g (goal.at.first_part-requires-clause-states g c).In-Some in
    let live = component_live (cell c.args.plane.now) c.in_ok-component-items.component-items.items c.in-Some.component c.in_ok-component-items.ensures in_plane in
    states_of_part (g.A.Automaton.state_count c.args.rule.now) c.args.plane.now c.in_ok-component-items.component-items.items c.in-Some.component
    c.requires.states c.in_ok-component-items.ensures.together in_plane live c.as_slice-listed.ensures.sparse

pub components-preserved : goal.components-preserved
components-preserved g c =
    let so_far = c.components.invariant in
    let part = c.in_ok-first_part.field-0 in
    let Runs : Part → Type 0 = IsRun (g.A.Automaton.next_of c.args.rule.now) (g.A.Automaton.state_count c.args.rule.now) in
    record {
      can_next = tt;
      is_finite = tt;
      runs = All-same Runs c.push.new.self.items (c.components.parts.items ++ part ∷ []) c.in_ok-push.ensures.items
          (All-push Runs c.components.parts.items part so_far.runs c.in_ok-first_part.ensures.run);
      origins =
          let before = map_push origin c.components.parts.items part in
          let first : origin part ≡ c.in-Some.component = c.in_ok-first_part.ensures.first in
          let same : map origin c.components.parts.items ≡ c.components.yielded = so_far.origins in
          cc c.in_ok-push.ensures.items;
    }

pub returns : goal.returns
returns g c =
    let end = YieldsList-end (YieldsList-from_vec {s = c.into_iter-component-iterator.result} c.in_ok-component-items.component-items.items (search rules) (search rules))
    c.components.yielded c.components.component-iterator c.components.yielded_by c.next.result c.next.new.self c.in-None.is c.next.ensures.steps in
    let all : c.components.yielded ≡ c.in_ok-component-items.component-items.items = sym (map-id c.components.yielded) ∙ end.0 in
    AreRuns-first (g.A.Automaton.next_of c.args.rule.now) c.requires.quiet (g.A.Automaton.state_count c.args.rule.now) (cell c.args.plane.now)
    c.in_ok-component-items.component-items.items c.components.parts.items c.in_ok-component-items.ensures c.components.invariant.runs (c.components.invariant.origins ∙ all)
