use Rattle.std.proofs.Common.{◌-◌, refl, rules, arith}
use Rattle.ca_run.proofs.LeaperGrowth.{goes_on_again}
use Rattle.ca_pattern.proofs.LeaptTrees.{pattern_stays}
use Rattle.ca_verify.proofs.Spending.{halves_none, takes_half, halves_all}
use Rattle.ca_verify.proofs.LifeSpans.{dead_by_middle, lives_at_middle, span_found}
use Rattle.ca_verify.proofs.decide.deaths.life_span.Goals as goal

pub tree_after-requires : goal.tree_after-requires
tree_after-requires g c = record {
  pattern = pattern_stays c.args.leaper.now.nodes c.halves.leaper.nodes c.store.ensures.sound c.halves.invariant.goes_on.grows c.args.case.now.subject.pattern c.requires.subject.pattern;
  few = omega (arith, c.halves-test.true, c.half_way-middle.ensures, c.halves.invariant.bounds.order, c.halves.invariant.bounds.within, c.requires.subject.bounded.few);
}

pub halves-init : goal.halves-init
halves-init g c = record {
  goes_on = search rules;
  bounds = search rules;
  takes = halves_none _ _ c.args.case.now.subject.pattern.level c.args.case.now.asks.generations (omega arith) c.requires.subject.bounded.few;
}

pub halves-preserved-then-is_dead : goal.halves-preserved-then-is_dead
halves-preserved-then-is_dead g c = record {
  goes_on = goes_on_again _ c.args.leaper.now c.halves.leaper c.tree_after.new.leaper c.halves.invariant.goes_on c.in_ok-plane.ensures.goes_on;
  bounds = dead_by_middle g.A.Automaton.next_of _ _ c.halves.invariant.goes_on.rule _ _ _ _ _ c.store.ensures.sound c.halves.invariant.goes_on.grows c.store-in-halves.ensures.nodes
      c.requires _ _ c.halves.invariant.bounds _ (omega (arith, c.halves-test.true, c.half_way-middle.ensures)) (omega (arith, c.halves-test.true, c.half_way-middle.ensures)) _ c.in_ok-plane.ensures.end (c.if-is_dead.ensures.dead refl);
  takes = takes_half _ _ _ _ _ c.args.case.now.subject.pattern.level c.args.case.now.asks.generations _ c.halves-test.true (omega (arith, c.halves-test.true, c.half_way-middle.ensures)) (omega (arith, c.halves-test.true, c.half_way-middle.ensures, c.halves.invariant.bounds.within)) c.halves.invariant.takes c.in_ok-plane.ensures.takes;
}

pub halves-preserved : goal.halves-preserved
halves-preserved g c = record {
  goes_on = goes_on_again _ c.args.leaper.now c.halves.leaper c.tree_after.new.leaper c.halves.invariant.goes_on c.in_ok-plane.ensures.goes_on;
  bounds = lives_at_middle g.A.Automaton.next_of _ _ c.halves.invariant.goes_on.rule _ _ _ _ _ c.store.ensures.sound c.halves.invariant.goes_on.grows c.store-in-halves.ensures.nodes
      c.requires _ _ c.halves.invariant.bounds _ (omega (arith, c.halves-test.true, c.half_way-middle.ensures)) (omega (arith, c.halves-test.true, c.half_way-middle.ensures)) _ c.in_ok-plane.ensures.end (c.if-is_dead.ensures.live refl);
  takes = takes_half _ _ _ _ _ c.args.case.now.subject.pattern.level c.args.case.now.asks.generations _ c.halves-test.true (omega (arith, c.halves-test.true, c.half_way-middle.ensures)) (omega (arith, c.halves-test.true, c.half_way-middle.ensures, c.halves.invariant.bounds.within)) c.halves.invariant.takes c.in_ok-plane.ensures.takes;
}

pub returns-clause-span : goal.returns-clause-span
returns-clause-span g c = λ cells shows empty.
    span_found (g.A.Automaton.next_of c.args.leaper.now.rule) c.args.leaper.now.nodes c.args.case.now (g.met.A.Automaton.quiet c.args.leaper.now.rule c.store.ensures.rule)
    c.halves.low c.halves.high c.halves.invariant.bounds c.halves-test.false cells shows empty

pub returns-in_err-plane-clause-takes : goal.returns-in_err-plane-clause-takes
returns-in_err-plane-clause-takes g c =
    halves_all _ _ (c.half_way-middle.result - c.halves.low) c.args.case.now.subject.pattern.level c.args.case.now.asks.generations (omega (arith, c.halves-test.true, c.half_way-middle.ensures))
    (takes_half _ _ _ _ _ c.args.case.now.subject.pattern.level c.args.case.now.asks.generations _ c.halves-test.true (omega (arith, c.halves-test.true, c.half_way-middle.ensures)) (omega (arith, c.halves-test.true, c.half_way-middle.ensures, c.halves.invariant.bounds.within)) c.halves.invariant.takes c.tree_after.ensures.takes)

pub returns-clause-takes : goal.returns-clause-takes
returns-clause-takes g c = halves_all _ _ (c.halves.high - c.halves.low) c.args.case.now.subject.pattern.level c.args.case.now.asks.generations (omega (arith, c.halves.invariant.bounds.order)) c.halves.invariant.takes
