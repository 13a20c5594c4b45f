use Rattle.std.proofs.Common.{◌≡◌, subst, arith}
use Rattle.std.specs.Prelude.{replicate}
use Rattle.ca_quad.proofs.Shifts.{some_level}
use Rattle.ca_run.specs.inner.Dense.{HasReached}
use Rattle.ca_run.proofs.OwnStore.{keeps_then, less_to_do}
use Rattle.ca_run.proofs.DenseRuns.{reached_level, reached_moved, advanced_at}
use Rattle.ca_run.proofs.leaper.Leaper.leap_until.Goals as goal

pub returns-clause-advanced : goal.returns-clause-advanced
returns-clause-advanced g c =
    let next = g.A.Automaton.next_of c.args.self.now.rule in
    let s0 = c.args.origin.now in
    let s1 = c.leaps.self.nodes in
    let first = c.args.first.now in
    let run = c.leaps.invariant.reached in
    let quiet = subst (λ l. g.A.Automaton.next_of l.rule (replicate 9 0) ≡ 0) c.self.view_is (g.met.A.Automaton.quiet c.self.inside.rule c.self.invariant.rule) in
    let some = some_level s0 c.count-known.ensures.sound first c.requires.first.is_tree in
    let low = reached_level next s0 s1 first c.args.n c.leaps.reached run quiet some c.requires.first.level c.requires.first.time in
    advanced_at next s0 s1 first c.args.n c.leaps.reached run (omega (arith, c.leaps-test.false, run.most)) low

pub leaps-preserved-then-is_late : goal.leaps-preserved-then-is_late
leaps-preserved-then-is_late g c =
    let next = g.A.Automaton.next_of in
    let s0 = c.args.origin.now in
    let s2 = c.leap_once.new.self.nodes in
    let first = c.args.first.now in
    let inv = c.leaps.invariant in
    let reached = c.in_ok-reached.reached in
    let run = subst (λ r. HasReached (next r) s0 first c.args.n s2 reached) inv.keeps.rule c.in_ok-reached.ensures.reached in
    record {
      reached = reached_moved (next c.args.self.now.rule) s0 s2 first c.args.n reached run c.make_room.new.self.nodes c.in_ok-reached-2.field-0 c.in_ok-reached-2.ensures.moved;
      keeps = keeps_then (keeps_then inv.keeps c.in_ok-reached.ensures.keeps) c.in_ok-reached-2.ensures.keeps;
    }

pub leaps-preserved : goal.leaps-preserved
leaps-preserved g c =
    let next = g.A.Automaton.next_of in
    let inv = c.leaps.invariant in
    record {
      reached = subst (λ r. HasReached (next r) c.args.origin.now c.args.first.now c.args.n c.leap_once.new.self.nodes c.in_ok-reached.reached) inv.keeps.rule c.in_ok-reached.ensures.reached;
      keeps = keeps_then inv.keeps c.in_ok-reached.ensures.keeps;
    }

pub leaps-smaller-then-is_late : goal.leaps-smaller-then-is_late
leaps-smaller-then-is_late g c = less_to_do c.args.n c.leaps.reached c.leaps.pace c.in_ok-reached.reached c.leap_once.new.pace c.make_room.new.pace c.in_ok-reached.ensures.nearer c.in_ok-reached.ensures.reached.most c.make_room.ensures.tries

pub leaps-smaller : goal.leaps-smaller
leaps-smaller g c = less_to_do c.args.n c.leaps.reached c.leaps.pace c.in_ok-reached.reached c.leap_once.new.pace c.leap_once.new.pace c.in_ok-reached.ensures.nearer c.in_ok-reached.ensures.reached.most (omega arith)

pub returns-in_err-reached-clause-keeps : goal.returns-in_err-reached-clause-keeps
returns-in_err-reached-clause-keeps g c = keeps_then c.leaps.invariant.keeps c.in_err-reached.ensures.keeps

pub returns-in_err-reached-2-clause-keeps : goal.returns-in_err-reached-2-clause-keeps
returns-in_err-reached-2-clause-keeps g c = keeps_then (keeps_then c.leaps.invariant.keeps c.in_ok-reached.ensures.keeps) c.in_err-reached-2.ensures.keeps
