use Rattle.std.proofs.Common.{◌≡◌, ◌≤◌, map}
use Rattle.std.specs.List.{All}
use Rattle.ca_clusters.specs.inner.Runs.{IsRunTo, origin}
use Rattle.ca_clusters.proofs.search.run_parts.Given as goal

-- the parts so far, each run on
abbrev pub invariant-parts : goal.invariant-parts
invariant-parts g l = record {
  can_next : (goal.iterator-parts g).can_next l.part-iterator;
  is_finite : (goal.iterator-parts g).is_finite l.part-iterator;
  far : All (IsRunTo (g.A.Automaton.next_of l.fn.rule) (g.A.Automaton.state_count l.fn.rule) l.fn.horizon) l.later.items;
  origins : map origin l.later.items ≡ map origin l.yielded;
  budget : l.budget ≤ l.fn.budget;
}
