use Rattle.std.proofs.Common.{◌<◌}
use Rattle.std.specs.List.{All}
use Rattle.ca_library_tests.proofs.tests.generations.has_two_states.Given as goal

-- the cells so far are 0 or 1
abbrev pub invariant-cells : goal.invariant-cells
invariant-cells l = All (λ e. e.1 < 2) l.yielded
