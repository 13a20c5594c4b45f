use Rattle.std.proofs.Common.{◌≡◌, ◌<◌, ap, subst, arith}
use Rattle.std.specs.Prelude.{Err}
use Rattle.ca_steps.specs.Prelude.{LeavesReachBefore, IsStepped}
use Rattle.ca_steps.proofs.OutOfReach.{after_one_more, LeavesReach-from_after, within_one_more, LeavesReachBefore-after, Steps-ok, Steps-err}
use Rattle.ca_steps.proofs.generations.steps.Goals as goal

pub generations-init : goal.generations-init
generations-init g c = record { stepped = c.in_ok-now.ensures.stepped; within = c.in_ok-now.ensures.within }

pub generations-preserved : goal.generations-preserved
generations-preserved g c =
    let next = g.A.Automaton.next_of c.args.rule.now in
    let p = c.args.plane.now in
    let n = c.generations.counter in
    let inv = c.generations.invariant in
    let one = c.in_ok-now-2.ensures in
    record {
      stepped = record {
        after = after_one_more next p c.generations.now c.in_ok-now-2.now n inv.stepped.after one.stepped.after;
        states = one.stepped.states;
        sparse = one.stepped.sparse;
      };
      within = within_one_more next p n inv.within (λ leaves. one.within (0, omega arith, LeavesReach-from_after next p c.generations.now n inv.stepped.after leaves));
    }

pub returns-in_err-now-2 : goal.returns-in_err-now-2
returns-in_err-now-2 g c =
    let next = g.A.Automaton.next_of c.args.rule.now in
    let p = c.args.plane.now in
    let m = c.generations.counter in
    let inv = c.generations.invariant in
    let some : 0 < m = omega arith in
    let less : m < c.args.n = omega arith in
    Steps-err next _ p c.args.n c.in_err-now-2.field-0.0 _ c.from_residual-in_err-now-2.ensures.1
    (λ is. LeavesReachBefore-after next p c.generations.now m c.args.n less inv.stepped.after (c.in_err-now-2.ensures.range (ap Err is)))
    (λ _ leaves. absurd (inv.within (0, some, leaves)))

pub returns : goal.returns
returns g c =
    let next = g.A.Automaton.next_of c.args.rule.now in
    let count = g.A.Automaton.state_count c.args.rule.now in
    let p = c.args.plane.now in
    let inv = c.generations.invariant in
    let all : c.generations.counter ≡ c.args.n = omega arith in
    Steps-ok next count p c.args.n c.generations.now (subst (λ n. IsStepped next count p n c.generations.now) all inv.stepped)
    (subst (λ n. LeavesReachBefore next p n → ⊥) all inv.within)
