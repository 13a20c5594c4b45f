use Rattle.std.proofs.Common.{◌≡◌, ◌+◌, ◌%◌, ◌^◌}
use Rattle.ca_run.specs.Prelude.{LeaperGrows}
use Rattle.ca_run.specs.inner.Dense.{HasReached, HasLeapt}
use Rattle.ca_run.proofs.leaper.Leaper.leap_on.Given as goal

-- the tree after as many generations as the first j binary digits of those that are left say, and what the leaps cost
abbrev pub invariant-digits : goal.invariant-digits
invariant-digits g l = record {
  reached : HasReached (g.A.Automaton.next_of l.fn.self.rule) l.fn.self.nodes l.fn.first l.fn.n l.self.nodes l.reached;
  time : l.reached.generations ≡ l.begun + l.left % 2 ^ l.j;
  none : l.fn.n ≡ 0 → l.reached.tree ≡ l.fn.reached.tree;
  goes_on : LeaperGrows _ l.fn.self l.self;
  costs : HasLeapt _ l.fn.self l.fn.first l.begun l.fn.n l.j l.self;
}
