use Rattle.std.proofs.Common.{◌+◌, ◌-◌, ◌*◌}
use Rattle.ca_run.specs.inner.OwnStore.{KeepsOn}
use Rattle.ca_budget.specs.Prelude.{tries, most_tries}
use Rattle.ca_run.specs.inner.Dense.{HasReached}
use Rattle.ca_run.proofs.leaper.Leaper.leap_until.Given as goal

-- what is reached so far
abbrev pub invariant-leaps : goal.invariant-leaps
invariant-leaps g l = record {
  reached : HasReached (g.A.Automaton.next_of l.fn.self.rule) l.origin l.first l.n l.self.nodes l.reached;
  keeps : KeepsOn _ l.fn.self l.self;
}

-- the generations that are left, and what may still be tried for the next ones
abbrev pub decreases-leaps : goal.decreases-leaps
decreases-leaps g l = (l.n - l.reached.generations) * most_tries + tries l.pace
