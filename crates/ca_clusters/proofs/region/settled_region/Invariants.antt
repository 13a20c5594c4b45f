use Rattle.std.proofs.Common.{◌≡◌, ◌≤◌}
use Rattle.ca_steps.specs.Prelude.{IsStepped}
use Rattle.ca_clusters.proofs.region.settled_region.Given as goal

-- the cells after as many generations as were counted
abbrev pub invariant-generations : goal.invariant-generations
invariant-generations g l = record {
  stepped : IsStepped (g.A.Automaton.next_of l.fn.rule) (g.A.Automaton.state_count l.fn.rule) l.fn.cells l.n l.now;
  cells : l.cells ≡ l.fn.cells;
  budget : l.budget ≤ l.fn.budget;
}
