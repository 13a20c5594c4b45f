use Rattle.ca_quad.specs.Prelude.{IsTree}
use Rattle.ca_library_tests.proofs.tests.squares.raised.Given as goal

-- it is a tree of the store
abbrev pub invariant-levels : goal.invariant-levels
invariant-levels l = IsTree l.store l.larger
