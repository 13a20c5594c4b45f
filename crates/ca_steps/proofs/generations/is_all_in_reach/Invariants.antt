use Rattle.std.specs.List.{All}
use Rattle.ca_steps.specs.Prelude.{IsInReach}
use Rattle.ca_steps.proofs.generations.is_all_in_reach.Given as goal

-- the cells so far are in reach
abbrev pub invariant-cells : goal.invariant-cells
invariant-cells l = All (λ e. IsInReach e.0.x e.0.y) l.yielded
