use Rattle.std.proofs.Common.{◌-◌, ◌≤◌}
use Rattle.ca_run.specs.Prelude.{LeaperGrows}
use Rattle.ca_evolution.specs.Prelude.{Takes}
use Rattle.ca_verify.specs.inner.Subjects.{IsNarrowed}
use Rattle.ca_verify.proofs.decide.returns.first_return.Given as goal

-- how far the first return is found, and what it took
abbrev pub invariant-primes : goal.invariant-primes
invariant-primes g l = record {
  goes_on : LeaperGrows _ l.fn.leaper l.leaper;
  narrowed : IsNarrowed (g.A.Automaton.next_of l.fn.leaper.rule) l.fn.leaper.nodes l.fn.case l.time l.left l.found;
  some : 1 ≤ l.left;
  within : l.left ≤ l.fn.case.asks.generations;
  takes : Takes l.fn.leaper.spent.used l.leaper.spent.used (l.fn.case.asks.generations - l.left) l.fn.case.subject.pattern.level l.fn.case.asks.generations;
}

abbrev pub decreases-primes : goal.decreases-primes
decreases-primes g l = l.left
