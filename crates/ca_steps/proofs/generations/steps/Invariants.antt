use Rattle.ca_steps.specs.Prelude.{LeavesReachBefore, IsStepped}
use Rattle.ca_steps.proofs.generations.steps.Given as goal

-- the plane after as many generations as were counted
abbrev pub invariant-generations : goal.invariant-generations
invariant-generations g l = record {
  stepped : IsStepped (g.A.Automaton.next_of l.rule) (g.A.Automaton.state_count l.rule) l.plane l.counter l.now;
  within : LeavesReachBefore (g.A.Automaton.next_of l.rule) l.plane l.counter → ⊥;
}
