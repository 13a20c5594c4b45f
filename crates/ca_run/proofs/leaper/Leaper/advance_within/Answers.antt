use Rattle.std.proofs.Common.{ap, ◌∙◌, arith}
use Rattle.ca_budget.specs.declared.fault.LeapFault.TheVariants.{Memory}
use Rattle.ca_run.specs.inner.AtCost.{limited}
use Rattle.ca_run.proofs.Within.{within_reached, within_ended, within_failed, memory_is_no_work}
use Rattle.ca_run.proofs.leaper.Leaper.advance_within.Goals as goal

pub returns-in-Ok : goal.returns-in-Ok
returns-in-Ok g c =
    within_reached g.A.Automaton.next_of c.args.self.now c.args.tree c.args.n c.args.most c.work_limit-limit.result c.advance_watched-found.result (c.set_work_limit.ensures.lowered ∙ ap (limited c.args.self.now) c.min.ensures)
    c.advance_watched-found.ensures c.set_work_limit-2.ensures.lowered c.work_limit-limit.ensures c.set_work_limit.ensures.most c.set_work_limit-2.ensures.most c.in-Ok.later c.in-Ok.is

pub returns-in-Err-Memory : goal.returns-in-Err-Memory
returns-in-Err-Memory g c =
    within_failed g.A.Automaton.next_of c.args.self.now c.args.tree c.args.n c.args.most c.work_limit-limit.result c.advance_watched-found.result (c.set_work_limit.ensures.lowered ∙ ap (limited c.args.self.now) c.min.ensures)
    c.advance_watched-found.ensures c.set_work_limit-2.ensures.lowered c.work_limit-limit.ensures c.set_work_limit.ensures.most c.set_work_limit-2.ensures.most c.in-Err-Memory.field-0 Memory c.in-Err-Memory.is (rw c.in-Err-Memory.is at c.in-Err-Memory.field-0-is)
    (λ never. absurd (memory_is_no_work never))

pub returns-then-used-limit : goal.returns-then-used-limit
returns-then-used-limit g c =
    within_ended g.A.Automaton.next_of c.args.self.now c.args.tree c.args.n c.args.most c.work_limit-limit.result c.advance_watched-found.result (c.set_work_limit.ensures.lowered ∙ ap (limited c.args.self.now) c.min.ensures)
    c.advance_watched-found.ensures c.set_work_limit-2.ensures.lowered c.work_limit-limit.ensures c.set_work_limit.ensures.most c.set_work_limit-2.ensures.most c.in-Err-Work.field-0 c.in-Err-Work.is (rw c.in-Err-Work.is at c.in-Err-Work.field-0-is)
    (omega (arith, c.used-used.ensures.value, c.if-used-limit.true))
