use Rattle.std.proofs.Common.{◌+◌, ◌*◌, ◌^◌}
use Rattle.ca_run.specs.Prelude.{Costs, LeaperGrows}
use Rattle.ca_run.specs.inner.Dense.{HasReached}
use Rattle.ca_run.proofs.leaper.Leaper.step_grids.Given as goal

-- what is reached so far, and what it cost
abbrev pub invariant-grids : goal.invariant-grids
invariant-grids g l = record {
  reached : HasReached (g.A.Automaton.next_of l.fn.self.rule) l.self.nodes l.first l.n l.self.nodes l.reached;
  goes_on : LeaperGrows _ l.fn.self l.self;
  costs : Costs _ l.fn.self l.self (l.counter * (2 * 14 ^ (l.first.level + 4))) (255 * l.counter);
}
