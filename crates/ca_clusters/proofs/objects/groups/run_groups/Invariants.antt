use Rattle.ca_clusters.specs.inner.Groups.{AreRunsOf, GoAlong}
use Rattle.ca_clusters.proofs.objects.groups.run_groups.Given as goal

-- the groups go along with the cluster before n generations, and as many of their planes are known
abbrev pub invariant-generations : goal.invariant-generations
invariant-generations g l = record {
  runs : AreRunsOf (g.A.Automaton.next_of l.rule) (g.A.Automaton.state_count l.rule) l.fn.groups.items l.n l.runs.items;
  along : GoAlong (g.A.Automaton.next_of l.rule) l.cluster.planes l.n l.fn.groups.items;
}
