use Rattle.std.proofs.Common.{◌≡◌, ℕ, ◌+◌, ◌-◌, ◌≤◌, ◌<◌, max, List, take, refl, sym, subst, ◌∙◌, arith}
use Rattle.std.specs.Prelude.{ℤ, replicate, slice_get, Some}
use Rattle.ca_plane.specs.Prelude.{cells_after}
use Rattle.ca_quad.specs.Prelude.{IsDead, cell}
use Rattle.ca_quad.proofs.Measures.{boxes_stay}
use Rattle.ca_quad.proofs.Trims.{trees_stay}
use Rattle.ca_budget.specs.Prelude.{Spent}
use Rattle.ca_run.specs.Prelude.{LeaperGrows}
use Rattle.ca_run.proofs.LeaperGrowth.{goes_on_again}
use Rattle.ca_identify.specs.declared.identification.stage.First.{First}
use Rattle.ca_pattern.specs.Prelude.{IsLaterTree, HasLive}
use Rattle.ca_identify.specs.inner.Stages.{IsStage, IsLastMovedFrom, AreMovedNowhere, ending_of}
use Rattle.ca_identify.proofs.Identities.{found_ending, ending_time, no_ending}
use Rattle.ca_identify.proofs.LaterPlanes.{tree_picture}
use Rattle.ca_identify.proofs.LaterLeapers.{as_before, walks_on}
use Rattle.ca_identify.proofs.Stages.{first_stays, later_stays, walk_stays}
use Rattle.ca_identify.proofs.Strides.{element_at, part_at, at_part, nowhere_as, moved_as, live_as, stride_can_go, stride_tree, stride_others, never_again}
use Rattle.ca_identify.proofs.identification.strides.stride_to.Goals as goal
use Rattle.ca_identify.proofs.identification.strides.stride_to.Goals.{In_ok-later, In_ok-before, In-Some, In_ok-stage}

pub later_within-requires : goal.later_within-requires
later_within-requires g c =
    stride_can_go (g.A.Automaton.next_of c.args.leaper.now.rule) (cell c.args.leaper.now.nodes c.args.first.now.tree) c.args.walk.now.generations c.args.reach.limit c.requires.walk.within
    c.args.leaper.now.nodes c.args.walk.now.tree c.requires.walk.is_walk.now c.requires.walk.pattern.quiet c.requires.walk.pattern.is_first.start.within c.requires.walk.pattern.most

-- the tree at the end
module _ (g : _) (c : In_ok-later g) where
  abbrev next : List ℕ → ℕ
  next = g.A.Automaton.next_of c.args.leaper.now.rule

  abbrev first : ℤ → ℤ → ℕ
  first = cell c.args.leaper.now.nodes c.args.first.now.tree

  abbrev stages : ℕ → ℤ → ℤ → ℕ
  stages = cells_after next first

  quiet : next (replicate 9 0) ≡ 0
  quiet = c.requires.walk.pattern.quiet

  end_tree : IsLaterTree next first c.args.reach.limit c.later_within.new.leaper.nodes c.in_ok-later.later
  end_tree = stride_tree next first c.args.walk.now.generations c.args.reach.limit c.requires.walk.within c.args.leaper.now.nodes c.args.walk.now.tree c.requires.walk.is_walk.now c.later_within.new.leaper.nodes c.in_ok-later.later
      c.in_ok-later.ensures.later

  -- what an early plane's tree shows now
  early_shows : (k : ℕ) (plane : First) → slice_get c.args.early.now k ≡ Some plane → (x y : ℤ) → cell c.later_within.new.leaper.nodes plane.tree x y ≡ stages k x y
  early_shows k plane at x y =
      let is = c.requires.early k plane at in
      trees_stay c.args.leaper.now.nodes c.later_within.new.leaper.nodes c.requires.walk.pattern.sound c.in_ok-later.ensures.goes_on.grows plane.tree is.is_first.start.is_tree x y ∙ is.shows x y

pub returns-then-is_dead-clause-stride : goal.returns-then-is_dead-clause-stride
returns-then-is_dead-clause-stride g c = λ x y.
    let a = (goal.at.returns-then-is_dead-clause-stride g c).In_ok-later in
    let later = c.in_ok-later.later in
    let dead = subst (λ s. IsDead (cell s later)) c.store.ensures.nodes (c.if-is_dead.ensures.dead refl) in
    sym ((end_tree g a).shows x y) ∙ dead x y

pub returns-then-is_dead-clause-boxes : goal.returns-then-is_dead-clause-boxes
returns-then-is_dead-clause-boxes g c = boxes_stay c.args.leaper.now.nodes c.later_within.new.leaper.nodes c.requires.walk.pattern.sound c.in_ok-later.ensures.goes_on.grows _ c.requires.boxes

pub plane_before-requires-clause-early : goal.plane_before-requires-clause-early
plane_before-requires-clause-early g c = λ k plane at.
    let there = part_at c.args.early.now (c.args.reach.limit - c.args.walk.now.generations) k plane at in
    first_stays c.args.leaper.now.nodes c.later_within.new.leaper.nodes c.requires.walk.pattern.sound c.in_ok-later.ensures.goes_on.grows plane (c.requires.early k plane there.0).is_first

pub plane_before-requires-clause-boxes : goal.plane_before-requires-clause-boxes
plane_before-requires-clause-boxes g c = boxes_stay c.args.leaper.now.nodes c.later_within.new.leaper.nodes c.requires.walk.pattern.sound c.in_ok-later.ensures.goes_on.grows _ c.requires.boxes

pub returns-in_default-clause-stride : goal.returns-in_default-clause-stride
returns-in_default-clause-stride g c =
    let a = (goal.at.returns-in_default-clause-stride g c).In_ok-later in
    let s1 = c.later_within.new.leaper.nodes in
    let later = c.in_ok-later.later in
    let steps = c.args.reach.limit - c.args.walk.now.generations in
    let is = end_tree g a in
    let live = subst (λ s. HasLive (cell s later)) c.store.ensures.nodes (c.if-is_dead.ensures.live refl) in
    let before = rw c.in_default.is at c.in_ok-before.ensures.before in
    let nowhere : (j : ℕ) → j < steps → c.args.reach.limit - c.args.reach.limit ≤ j → AreMovedNowhere (stages g a j) (stages g a c.args.reach.limit) = λ j less all.
    let found = element_at c.args.early.now j (omega (arith, less, c.requires.near, c.requires.more)) in
    nowhere_as (cell s1 found.0.tree) (cell s1 later) (stages g a j) (stages g a c.args.reach.limit) (early_shows g a j found.0 found.1) is.shows
    (before j found.0 (at_part c.args.early.now steps j found.0 less found.1)) in (
      later_stays c.in_ok-later.ensures.goes_on.grows.sound c.in_ok-before.ensures.goes_on.grows is,
      stride_others (next g a) (first g a) (quiet g a) c.args.walk.now.generations c.args.reach.limit c.args.reach.limit (omega arith) c.requires.walk.is_walk.others (live_as (cell s1 later) (stages g a c.args.reach.limit) is.shows live) nowhere,
    )

-- how the leaper goes on till the planes are compared
module _ (g : _) (c : In_ok-before g) where
  on_before : LeaperGrows _ c.args.leaper.now c.plane_before.new.leaper
  on_before = goes_on_again _ _ _ _ c.in_ok-later.ensures.goes_on c.in_ok-before.ensures.goes_on

  -- and how much is used up then
  before_bounded : c.plane_before.new.leaper.spent.used ≤ max c.args.leaper.now.spent.used c.args.reach.until
  before_bounded = subst (λ (s : Spent). s.used ≤ max c.args.leaper.now.spent.used c.args.reach.until) (sym c.in_ok-before.ensures.spent) c.in_ok-later.ensures.bounded

pub returns-in_err-before-clause-bounded : goal.returns-in_err-before-clause-bounded
returns-in_err-before-clause-bounded g c = subst (λ (s : Spent). s.used ≤ max c.args.leaper.now.spent.used c.args.reach.until) (sym c.plane_before.ensures.spent) c.in_ok-later.ensures.bounded

pub returns-in_default-clause-bounded : goal.returns-in_default-clause-bounded
returns-in_default-clause-bounded g c = before_bounded g (goal.at.returns-in_default-clause-bounded g c).In_ok-before

pub returns-in_default-clause-goes_on : goal.returns-in_default-clause-goes_on
returns-in_default-clause-goes_on g c = goes_on_again _ _ _ _ c.in_ok-later.ensures.goes_on c.in_ok-before.ensures.goes_on

-- the last of the planes of which the tree at the end is one, moved
module _ (g : _) (c : In-Some g) where
  found : IsLastMovedFrom c.later_within.new.leaper.nodes (take (c.args.reach.limit - c.args.walk.now.generations) c.args.early.now) (cell c.later_within.new.leaper.nodes c.in_ok-later.later) c.in-Some.before
  found = rw c.in-Some.is at c.in_ok-before.ensures.before

  there : (slice_get c.args.early.now c.in-Some.before ≡ Some found.0.0) × (c.in-Some.before < c.args.reach.limit - c.args.walk.now.generations)
  there = part_at c.args.early.now (c.args.reach.limit - c.args.walk.now.generations) c.in-Some.before found.0.0 found.0.1

pub stage_after-requires-clause-walk : goal.stage_after-requires-clause-walk
stage_after-requires-clause-walk g c =
    let a = goal.at.stage_after-requires-clause-walk g c in
    let on = on_before g a.In_ok-before in
    let less = (there g a.In-Some).1 in
    walks_on g.A.Automaton.next_of on c.requires.walk.pattern c.args.walk.now (c.args.reach.limit - c.in-Some.before) (omega arith) (omega (arith, less)) (walk_stays c.requires.walk.pattern.sound on.grows c.requires.walk.is_walk)

-- what is shown when the pattern may be back
module _ (g : _) (c : In_ok-stage g) where
  on_stage : LeaperGrows _ c.args.leaper.now c.stage_after.new.leaper
  on_stage =
      goes_on_again _ _ _ _
      (goes_on_again _ _ _ _ c.in_ok-later.ensures.goes_on c.in_ok-before.ensures.goes_on) c.in_ok-stage.ensures.goes_on

  told : (on : LeaperGrows _ c.args.leaper.now c.plane_before.new.leaper) → IsStage (cell c.args.leaper.now.nodes c.args.first.now.tree)
      (cells_after (g.A.Automaton.next_of c.args.leaper.now.rule) (cell c.args.leaper.now.nodes c.args.first.now.tree) (c.args.reach.limit - c.in-Some.before)) c.in_ok-stage.stage
  told on = as_before g.A.Automaton.next_of on c.requires.walk.pattern (λ n p. IsStage p (cells_after n p (c.args.reach.limit - c.in-Some.before)) c.in_ok-stage.stage) c.in_ok-stage.ensures.stage

pub returns-in_err-stage-clause-goes_on : goal.returns-in_err-stage-clause-goes_on
returns-in_err-stage-clause-goes_on g c =
    goes_on_again _ _ _ _ (on_before g (goal.at.returns-in_err-stage-clause-goes_on g c).In_ok-before) c.stage_after.ensures.goes_on

pub returns-in-Some-ending-clause-goes_on : goal.returns-in-Some-ending-clause-goes_on
returns-in-Some-ending-clause-goes_on g c = on_stage g (goal.at.returns-in-Some-ending-clause-goes_on g c).In_ok-stage

pub returns-in-None-clause-goes_on : goal.returns-in-None-clause-goes_on
returns-in-None-clause-goes_on g c = on_stage g (goal.at.returns-in-None-clause-goes_on g c).In_ok-stage

pub returns-in-Some-ending-clause-stride : goal.returns-in-Some-ending-clause-stride
returns-in-Some-ending-clause-stride g c =
    let at = goal.at.returns-in-Some-ending-clause-stride g c in
    let a = at.In_ok-later in
    let s1 = c.later_within.new.leaper.nodes in
    let later = c.in_ok-later.later in
    let n = c.args.walk.now.generations in
    let end = c.args.reach.limit in
    let q = end - c.in-Some.before in
    let ending = c.in-Some-ending.ending in
    let ends = sym c.ending.ensures ∙ c.in-Some-ending.is in
    let time = ending_time c.in_ok-stage.stage q ending ends in
    let last = found g at.In-Some in
    let less = (there g at.In-Some).1 in
    let is = end_tree g a in
    let live = subst (λ s. HasLive (cell s later)) c.store.ensures.nodes (c.if-is_dead.ensures.live refl) in
    let same : q ≡ q - 1 + 1 = omega (arith, less) in
    let nowhere : (k : ℕ) → k < end - n → end - (q - 1) ≤ k → AreMovedNowhere (stages g a k) (stages g a end) = λ k under above.
    let plane = element_at c.args.early.now k (omega (arith, under, c.requires.near, c.requires.more)) in
    nowhere_as (cell s1 plane.0.tree) (cell s1 later) (stages g a k) (stages g a end) (early_shows g a k plane.0 plane.1) is.shows
    (last.1 k plane.0 (omega (arith, above, less)) (at_part c.args.early.now (end - n) k plane.0 under plane.1)) in
    let others = stride_others (next g a) (first g a) (quiet g a) n end (q - 1) (omega arith) c.requires.walk.is_walk.others (live_as (cell s1 later) (stages g a end) is.shows live) nowhere in (
      omega (arith, time),
      λ cells shows.
          found_ending (next g a) (quiet g a) c.args.leaper.now.nodes c.args.first.now c.requires.walk.pattern.is_first cells shows (q - 1) others end (omega (arith, less)) c.requires.walk.pattern.most c.in_ok-stage.stage ending
          (subst (λ k. ending_of c.in_ok-stage.stage k ≡ Some ending) same ends)
          (subst (λ k. IsStage (first g a) (stages g a k) c.in_ok-stage.stage) same (told g at.In_ok-stage (on_before g at.In_ok-before))),
    )

pub returns-in-None-clause-stride : goal.returns-in-None-clause-stride
returns-in-None-clause-stride g c =
    let at = goal.at.returns-in-None-clause-stride g c in
    let a = at.In_ok-later in
    let s0 = c.args.leaper.now.nodes in
    let s1 = c.later_within.new.leaper.nodes in
    let later = c.in_ok-later.later in
    let j = c.in-Some.before in
    let q = c.args.reach.limit - j in
    let (last, after) = found g at.In-Some in
    let held = there g at.In-Some in
    let less = held.1 in
    let plane = last.0 in
    let (cells, same) = tree_picture s0 c.args.first.now.tree in
    let (settled, shown) = tree_picture s1 plane.tree in
    let moved = moved_as (cell s1 plane.tree) (cell s1 later) (stages g a j) (stages g a c.args.reach.limit) (early_shows g a j plane held.0) (end_tree g a).shows last.2 last.3 last.4 in
    let other = subst (IsStage (first g a) (stages g a q)) (no_ending c.in_ok-stage.stage q (sym c.ending.ensures ∙ c.in-None.is)) (told g at.In_ok-stage (on_before g at.In_ok-before)) in
    never_again (next g a) (first g a) cells settled (λ x y. sym (same x y)) j c.args.reach.limit (omega (arith, less)) (λ x y. sym (shown x y) ∙ early_shows g a j plane held.0 x y) last.2 last.3 moved other.1

-- ---- what is used up at last

pub returns-in_err-stage-clause-bounded : goal.returns-in_err-stage-clause-bounded
returns-in_err-stage-clause-bounded g c =
    let before = before_bounded g (goal.at.returns-in_err-stage-clause-bounded g c).In_ok-before in
    omega (arith, before, c.stage_after.ensures.bounded)

pub returns-in-Some-ending-clause-bounded : goal.returns-in-Some-ending-clause-bounded
returns-in-Some-ending-clause-bounded g c =
    let before = before_bounded g (goal.at.returns-in-Some-ending-clause-bounded g c).In_ok-before in
    omega (arith, before, c.in_ok-stage.ensures.bounded)

pub returns-in-None-clause-bounded : goal.returns-in-None-clause-bounded
returns-in-None-clause-bounded g c =
    let before = before_bounded g (goal.at.returns-in-None-clause-bounded g c).In_ok-before in
    omega (arith, before, c.in_ok-stage.ensures.bounded)
