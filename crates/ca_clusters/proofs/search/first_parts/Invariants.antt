use Rattle.std.proofs.Common.{◌≡◌, map}
use Rattle.std.specs.List.{All}
use Rattle.ca_clusters.specs.inner.Runs.{IsRun, origin}
use Rattle.ca_clusters.proofs.search.first_parts.Given as goal

-- the components so far, none of them run yet
abbrev pub invariant-components : goal.invariant-components
invariant-components g l = record {
  can_next : (goal.iterator-components g).can_next l.component-iterator;
  is_finite : (goal.iterator-components g).is_finite l.component-iterator;
  runs : All (IsRun (g.A.Automaton.next_of l.fn.rule) (g.A.Automaton.state_count l.fn.rule)) l.parts.items;
  origins : map origin l.parts.items ≡ l.yielded;
}
