use Rattle.std.proofs.Common.{◌≤◌, max, sym, subst}
use Rattle.ca_quad.proofs.Measures.{boxes_stay}
use Rattle.ca_budget.specs.Prelude.{Spent}
use Rattle.ca_run.proofs.LeaperGrowth.{goes_on_again}
use Rattle.ca_identify.proofs.LaterLeapers.{first_then, shown_stage}
use Rattle.ca_identify.proofs.Strides.{stride_can_go, stride_tree}
use Rattle.ca_identify.proofs.identification.strides.stage_after.Goals as goal

pub later_within-requires : goal.later_within-requires
later_within-requires g c =
    let walk = c.requires.walk in
    stride_can_go _ _ c.args.walk.now.generations c.args.generations walk.within c.args.leaper.now.nodes c.args.walk.now.tree walk.is_walk.now walk.pattern.quiet walk.pattern.is_first.start.within walk.pattern.most

pub stage_of-requires-clause-first : goal.stage_of-requires-clause-first
stage_of-requires-clause-first g c = first_then g.A.Automaton.next_of c.in_ok-tree.ensures.goes_on c.requires.walk.pattern

pub stage_of-requires-clause-boxes : goal.stage_of-requires-clause-boxes
stage_of-requires-clause-boxes g c =
    boxes_stay c.args.leaper.now.nodes c.later_within.new.leaper.nodes c.requires.walk.pattern.sound c.in_ok-tree.ensures.goes_on.grows _ c.requires.boxes

pub returns-clause-stage : goal.returns-clause-stage
returns-clause-stage g c =
    let walk = c.requires.walk in
    let later = stride_tree _ _ c.args.walk.now.generations c.args.generations walk.within c.args.leaper.now.nodes c.args.walk.now.tree walk.is_walk.now c.later_within.new.leaper.nodes c.in_ok-tree.tree c.in_ok-tree.ensures.later in
    shown_stage g.A.Automaton.next_of c.in_ok-tree.ensures.goes_on walk.pattern c.args.generations c.in_ok-tree.tree c.in_ok-stage.stage later c.in_ok-stage.ensures.stage

pub returns-clause-goes_on : goal.returns-clause-goes_on
returns-clause-goes_on g c = goes_on_again _ _ _ _ c.in_ok-tree.ensures.goes_on c.in_ok-stage.ensures.goes_on

pub returns-in_err-stage-clause-bounded : goal.returns-in_err-stage-clause-bounded
returns-in_err-stage-clause-bounded g c = subst (λ (s : Spent). s.used ≤ max c.args.leaper.now.spent.used c.args.until) (sym c.in_err-stage.ensures.spent) c.in_ok-tree.ensures.bounded

pub returns-clause-bounded : goal.returns-clause-bounded
returns-clause-bounded g c = subst (λ (s : Spent). s.used ≤ max c.args.leaper.now.spent.used c.args.until) (sym c.in_ok-stage.ensures.spent) c.in_ok-tree.ensures.bounded
