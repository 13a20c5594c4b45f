use Rattle.std.proofs.Common.{◌-◌}
use Rattle.ca_run.specs.Prelude.{LeaperGrows}
use Rattle.ca_verify.specs.inner.Spending.{TakesHalves}
use Rattle.ca_verify.specs.inner.Subjects.{AreLifeBounds}
use Rattle.ca_verify.proofs.decide.deaths.life_span.Given as goal

-- times between which the pattern dies, and what it took to find them
abbrev pub invariant-halves : goal.invariant-halves
invariant-halves g l = record {
  goes_on : LeaperGrows _ l.fn.leaper l.leaper;
  bounds : AreLifeBounds (g.A.Automaton.next_of l.fn.leaper.rule) l.fn.leaper.nodes l.fn.case l.low l.high;
  takes : TakesHalves l.fn.leaper.spent.used l.leaper.spent.used (l.high - l.low) l.fn.case.subject.pattern.level l.fn.case.asks.generations;
}

abbrev pub decreases-halves : goal.decreases-halves
decreases-halves g l = l.high - l.low
