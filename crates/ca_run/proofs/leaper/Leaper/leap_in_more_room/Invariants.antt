use Rattle.ca_run.specs.Prelude.{LeaperGrows}
use Rattle.ca_budget.specs.Prelude.{tries}
use Rattle.ca_run.specs.inner.Dense.{HasReached}
use Rattle.ca_run.proofs.leaper.Leaper.leap_in_more_room.Given as goal

-- what is reached so far
abbrev pub invariant-rooms : goal.invariant-rooms
invariant-rooms g l = record {
  reached : HasReached (g.A.Automaton.next_of l.fn.self.rule) l.self.nodes l.first l.n l.self.nodes l.reached;
  goes_on : LeaperGrows _ l.fn.self l.self;
}

-- by how much the room may still grow
abbrev pub decreases-rooms : goal.decreases-rooms
decreases-rooms g l = tries l.pace
