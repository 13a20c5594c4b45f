use Rattle.std.proofs.Common.{◌+◌, ◌≤◌, max, refl, sym, subst, arith}
use Rattle.ca_quad.specs.Prelude.{cell}
use Rattle.ca_quad.proofs.Measures.{boxes_stay}
use Rattle.ca_budget.specs.Prelude.{Spent}
use Rattle.ca_run.proofs.LeaperGrowth.{goes_on_again}
use Rattle.ca_identify.proofs.LaterLeapers.{first_then, shown_stage}
use Rattle.ca_identify.proofs.Spending.{ends_after}
use Rattle.ca_identify.proofs.Stages.{later_stays}
use Rattle.ca_evolution.proofs.Steps.{near_next, later_next}
use Rattle.ca_evolution.specs.Prelude.{step_work}
use Rattle.ca_identify.proofs.identification.walk.step.Goals as goal

pub later_within-requires : goal.later_within-requires
later_within-requires g c =
    let nodes = c.args.leaper.now.nodes in
    let now = c.requires.now in
    record {
      is_tree = now.near.is_tree;
      low = now.low;
      trimmed = now.trimmed;
      few = omega arith;
      near = near_next (g.A.Automaton.next_of c.args.leaper.now.rule) (cell nodes c.args.first.now.tree) c.args.generations nodes c.args.now now
          c.requires.first.quiet c.requires.first.is_first.start.within (omega (arith, c.requires.first.most));
    }

pub stage_of-requires-clause-first : goal.stage_of-requires-clause-first
stage_of-requires-clause-first g c = first_then g.A.Automaton.next_of c.in_ok-tree.ensures.goes_on c.requires.first

pub stage_of-requires-clause-boxes : goal.stage_of-requires-clause-boxes
stage_of-requires-clause-boxes g c =
    boxes_stay c.args.leaper.now.nodes c.later_within.new.leaper.nodes c.requires.first.sound c.in_ok-tree.ensures.goes_on.grows _ c.requires.boxes

pub returns-clause-tree : goal.returns-clause-tree
returns-clause-tree g c =
    later_stays c.in_ok-tree.ensures.goes_on.grows.sound c.in_ok-stage.ensures.goes_on.grows (later_next _ _ _ _ _ c.requires.now c.later_within.new.leaper.nodes c.in_ok-tree.tree c.in_ok-tree.ensures.later)

pub returns-clause-stage : goal.returns-clause-stage
returns-clause-stage g c =
    let later = later_next _ _ _ _ _ c.requires.now c.later_within.new.leaper.nodes c.in_ok-tree.tree c.in_ok-tree.ensures.later in
    shown_stage g.A.Automaton.next_of c.in_ok-tree.ensures.goes_on c.requires.first (c.args.generations + 1) c.in_ok-tree.tree c.in_ok-stage.stage later c.in_ok-stage.ensures.stage

pub returns-clause-goes_on : goal.returns-clause-goes_on
returns-clause-goes_on g c = goes_on_again _ _ _ _ c.in_ok-tree.ensures.goes_on c.in_ok-stage.ensures.goes_on

pub returns-in_err-tree-clause-takes : goal.returns-in_err-tree-clause-takes
returns-in_err-tree-clause-takes g c = c.later_within.ensures.one refl

pub returns-in_err-stage-clause-takes : goal.returns-in_err-stage-clause-takes
returns-in_err-stage-clause-takes g c =
    subst (λ (s : Spent). s.used ≤ c.args.leaper.now.spent.used + step_work c.args.now.level) (sym c.in_err-stage.ensures.spent) (c.in_ok-tree.ensures.one refl)

pub returns-clause-takes : goal.returns-clause-takes
returns-clause-takes g c =
    subst (λ (s : Spent). s.used ≤ c.args.leaper.now.spent.used + step_work c.args.now.level) (sym c.in_ok-stage.ensures.spent) (c.in_ok-tree.ensures.one refl)

pub returns-in_err-stage-clause-work : goal.returns-in_err-stage-clause-work
returns-in_err-stage-clause-work g c =
    ends_after c.from_residual-in_err-stage.result c.in_err-stage.field-0.0 c.from_residual-in_err-stage.ensures.1 c.args.until c.stage_of.new.leaper.spent c.in_err-stage.ensures.work

pub returns-in_err-stage-clause-bounded : goal.returns-in_err-stage-clause-bounded
returns-in_err-stage-clause-bounded g c = subst (λ (s : Spent). s.used ≤ max c.args.leaper.now.spent.used c.args.until) (sym c.in_err-stage.ensures.spent) c.in_ok-tree.ensures.bounded

pub returns-clause-bounded : goal.returns-clause-bounded
returns-clause-bounded g c = subst (λ (s : Spent). s.used ≤ max c.args.leaper.now.spent.used c.args.until) (sym c.in_ok-stage.ensures.spent) c.in_ok-tree.ensures.bounded
