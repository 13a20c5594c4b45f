use Rattle.std.specs.List.{AllZip}
use Rattle.ca_clusters.specs.inner.Groups.{IsOneLater}
use Rattle.ca_clusters.proofs.objects.groups.later_runs.Given as goal

-- each run so far has a later one
abbrev pub invariant-runs : goal.invariant-runs
invariant-runs g l = AllZip (IsOneLater (g.A.Automaton.next_of l.rule) (g.A.Automaton.state_count l.rule)) l.yielded l.later.items
