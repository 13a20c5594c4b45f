-- What a live pattern's plane shows after some generations: which vectors may move the pattern there, and how far they
-- are.
use Rattle.std.proofs.Common.{◌≡◌, ◌≢◌, ℕ, zero, suc, ◌+◌, ◌-◌, ◌*◌, ◌^◌, ◌≤◌, List, Option, None, Some, inl, inr, refl, sym, subst, ◌∙◌, arith}
use Rattle.std.proofs.Math.Nat.{mul-le-mul_left}
use Rattle.std.proofs.Math.Path.{fun_ext}
use Rattle.std.specs.Prelude.{ℤ, pos, neg_ℤ, ◌+ℤ◌, ◌≤ℤ◌, replicate}
use Rattle.std.proofs.lemmas.Bool.{cases_eq}
use Rattle.std.proofs.lemmas.Int.{ints}
use Rattle.ca_plane.specs.Prelude.{cells_after, IsInPlane}
use Rattle.ca_quad.specs.declared.{node.Node.Node, tree.Tree.Tree, tree.WideBounds.WideBounds}
use Rattle.ca_quad.specs.Prelude.{IsSoundStore, Grows, IsTree, IsTrimmed, IsLeastWideBox, IsInWideBox, AreSquareBoxes, cell}
use Rattle.ca_plane.proofs.Numbers.{below_or_not}
use Rattle.ca_quad.proofs.Measures.{boxes_stay}
use Rattle.ca_quad.proofs.Reach.{tree_holds}
use Rattle.ca_quad.proofs.Shifts.{some_level}
use Rattle.ca_quad.proofs.Trims.{trees_stay}
use Rattle.ca_plane.proofs.After.{after_same, after_again}
use Rattle.ca_budget.proofs.Powers.{power_more, power_suc}
use Rattle.ca_pattern.specs.Prelude.{run_work, IsWithinPlane, IsWideBox, IsStart, IsLaterTree}
use Rattle.ca_identify.specs.declared.identification.{ending.Ending.Ending, stage.First.First, walk.Walk.Walk}
use Rattle.ca_identify.specs.declared.identification.stage.Stage.TheVariants.{Other}
use Rattle.ca_identify.specs.inner.Stages.{IsFirst, IsFirstBox, AreMoved, AreMovedNowhere, IsStage, AreOtherUpTo, IsWalk, IsHalted, IsLookedAt, TakesSearch, TakesSearchFrom, TakesEarly, early_work, leap_work}
use Rattle.ca_identify.specs.TreeLooks.{TakesRunAndSearch}
use Rattle.ca_evolution.specs.Prelude.{CanGoOn, TakesSteps, TakesRun}
use Rattle.ca_evolution.proofs.Steps.{first_tree, no_step, fewer_steps}
use Rattle.ca_pattern.proofs.Corners.{live_after, corner_broad, corner_wide, far_corner_wide}
use Rattle.ca_pattern.proofs.CellsNearMiddle.{live_near}
use Rattle.ca_pattern.proofs.LeaptTrees.{near_stays}
use Rattle.ca_pattern.proofs.Searches.{search_within}
use Rattle.ca_pattern.proofs.Starts.{start_stays, start_near, near_start}
use Rattle.ca_pattern.proofs.Times.{moved_nowhere}

-- later cells that the first ones are moved onto by no vector differ from them somewhere
pub changes : (p q : ℤ → ℤ → ℕ) → IsWithinPlane p → IsWithinPlane q → AreMovedNowhere p q → (x : ℤ) × (y : ℤ) × (q x y ≢ p x y)
changes p q near near_later nowhere =
    elim (search_within q p (2 ^ 62) (pos 0) (pos 0)) [
      | inr found ↦ found
      | inl same ↦ absurd (nowhere (pos 0) (pos 0) (λ x y.
          elim (cases_eq (q x y) (p x y)) [
            | inl e ↦ e ∙ moved_nowhere p (pos 0) (pos 0) x y refl refl
            | inr other ↦
                let out : IsInPlane (record { y = y; x = x }) → ⊥ = λ in_plane.
                other (same x y (omega (arith, ints, in_plane), omega (arith, ints, in_plane), omega (arith, ints, in_plane), omega (arith, ints, in_plane))) in
                absurd (other (near_later x y out ∙ sym (near x y out)))
          ]))
    ]

-- ---- how far a pattern moves

module _ (next : List ℕ → ℕ) (quiet : next (replicate 9 0) ≡ 0) (p : ℤ → ℤ → ℕ) (box : WideBounds) (least : IsLeastWideBox p box) (n : ℕ) where
  module _ (dx dy : ℤ) (moved : AreMoved p (cells_after next p n) dx dy) where
    -- no farther to the left than n
    pub least_right : neg_ℤ (pos n) ≤ℤ dx
    least_right = live_near next p n quiet (IsInWideBox box) least.all (box.x0 +ℤ dx) (least.left.0 +ℤ dy) (live_after p (cells_after next p n) dx dy moved box.x0 least.left.0 least.left.1) _ _
        (λ u v within inside. omega (arith, ints, within, inside))

    -- nor to the right
    pub most_right : dx ≤ℤ pos n
    most_right = live_near next p n quiet (IsInWideBox box) least.all (box.x1 +ℤ dx) (least.right.0 +ℤ dy) (live_after p (cells_after next p n) dx dy moved box.x1 least.right.0 least.right.1) _ _
        (λ u v within inside. omega (arith, ints, within, inside))

    -- nor up
    pub least_down : neg_ℤ (pos n) ≤ℤ dy
    least_down = live_near next p n quiet (IsInWideBox box) least.all (least.top.0 +ℤ dx) (box.y0 +ℤ dy) (live_after p (cells_after next p n) dx dy moved least.top.0 box.y0 least.top.1) _ _
        (λ u v within inside. omega (arith, ints, within, inside))

    -- nor down
    pub most_down : dy ≤ℤ pos n
    most_down = live_near next p n quiet (IsInWideBox box) least.all (least.bottom.0 +ℤ dx) (box.y1 +ℤ dy) (live_after p (cells_after next p n) dx dy moved least.bottom.0 box.y1 least.bottom.1) _ _
        (λ u v within inside. omega (arith, ints, within, inside))

-- ---- cells that are the same at every x and y

-- they are one plane
pub same_cells : (p q : ℤ → ℤ → ℕ) → ((x y : ℤ) → p x y ≡ q x y) → p ≡ q
same_cells p q same = fun_ext (λ x. fun_ext (same x))

-- ---- the store grows

-- a tree of later cells stays one
pub later_stays : {next : List ℕ → ℕ} {p : ℤ → ℤ → ℕ} {n : ℕ} {old new : List Node} {tree : Tree} → IsSoundStore old → Grows old new → IsLaterTree next p n old tree → IsLaterTree next p n new tree
later_stays {next} {p} {n} {old} {new} {tree} sound grows is =
    let same = trees_stay old new sound grows tree is.near.is_tree in
    record {
      near = near_stays old new sound grows tree is.near;
      low = is.low;
      trimmed = λ level some less holds. is.trimmed level some less (λ x y live. holds x y (λ none. live (sym (same x y) ∙ none)));
      shows = λ x y. same x y ∙ is.shows x y;
    }

-- so does a first pattern
pub first_stays : (old new : List Node) → IsSoundStore old → Grows old new → (first : First) → IsFirst old first → IsFirst new first
first_stays old new sound grows first is = record {
  start = start_stays old new sound grows first.tree is.start;
  box = subst (λ cells. IsLeastWideBox cells first.bounds) (sym (same_cells (cell new first.tree) (cell old first.tree) (trees_stay old new sound grows first.tree is.start.is_tree))) is.box;
}

-- a low tree that is no larger than it need be is that of a plane that is looked at
pub low_start : (nodes : List Node) (tree : Tree) → IsSoundStore nodes → IsTree nodes tree → IsTrimmed nodes tree → tree.level ≤ 62 → IsStart nodes tree
low_start nodes tree sound is trimmed low = record {
  is_tree = is;
  low = omega (arith, low);
  trimmed = trimmed;
  within = tree_holds nodes tree 62 (some_level nodes sound tree is) low;
}

-- the smallest box round the cells of a plane is wide at most
pub wide_box : (p : ℤ → ℤ → ℕ) (box : WideBounds) → IsLeastWideBox p box → IsWithinPlane p → IsWideBox box
wide_box p box least near =
    let corner = corner_wide p box least near in
    let far = far_corner_wide p box least near in
    record { left = corner.0; top = corner.1; right = far.0; bottom = far.1 }

-- and that of a first plane has its corner not as far
pub first_box : (nodes : List Node) (first : First) → IsFirst nodes first → IsFirstBox first.bounds
first_box nodes first is =
    let corner = corner_broad (cell nodes first.tree) first.bounds is.box is.start.within in
    let far = far_corner_wide (cell nodes first.tree) first.bounds is.box (near_start nodes first.tree is.start).near in
    record { left = corner.0; top = corner.1; right = far.0; bottom = far.1 }

-- from the tree of a plane that is looked at, its plane can be taken on
pub start_goes_on : (next : List ℕ → ℕ) (nodes : List Node) (tree : Tree) → next (replicate 9 0) ≡ 0 → IsStart nodes tree → (n : ℕ) → n ≤ 2 ^ 60 → CanGoOn next nodes tree n
start_goes_on next nodes tree quiet is n few = record {
  is_tree = is.is_tree;
  low = let low = is.low in omega (arith, low);
  trimmed = is.trimmed;
  few = few;
  near = start_near next (cell nodes tree) n quiet is.within (omega (arith, few));
}

-- ---- one generation on

-- after none of no generations,
pub others_at_first : (next : List ℕ → ℕ) (p : ℤ → ℤ → ℕ) → AreOtherUpTo next p 0
others_at_first next p m some within = absurd (omega (arith, some, within))

-- and after one more
pub one_more_other : (next : List ℕ → ℕ) (p : ℤ → ℤ → ℕ) (n : ℕ) → AreOtherUpTo next p n → IsStage p (cells_after next p (n + 1)) Other → AreOtherUpTo next p (n + 1)
one_more_other next p n before now m some within =
    elim (below_or_not m (n + 1)) [
      | inl less ↦ before m some (omega (arith, less))
      | inr from ↦ let same : n + 1 ≡ m = omega (arith, from, within) in subst (λ k. IsStage p (cells_after next p k) Other) same now
    ]

-- ---- walks

-- nothing was looked at yet
pub first_walk : (next : List ℕ → ℕ) (nodes : List Node) (tree : Tree) → IsStart nodes tree → (walk : Walk) → walk.tree ≡ tree → walk.generations ≡ 0 → AreSquareBoxes nodes walk.boxes
    → IsWalk next (cell nodes tree) nodes walk
first_walk next nodes tree is walk there none boxes = record {
  now = subst (λ n. IsLaterTree next (cell nodes tree) n nodes walk.tree) (sym none) (subst (IsLaterTree next (cell nodes tree) 0 nodes) (sym there) (first_tree next nodes tree is));
  others = subst (AreOtherUpTo next (cell nodes tree)) (sym none) (others_at_first next (cell nodes tree));
  boxes = boxes;
}

-- it stays one
pub walk_stays : {next : List ℕ → ℕ} {p : ℤ → ℤ → ℕ} {old new : List Node} {walk : Walk} → IsSoundStore old → Grows old new → IsWalk next p old walk → IsWalk next p new walk
walk_stays {next} {p} {old} {new} {walk} sound grows is = record { now = later_stays sound grows is.now; others = is.others; boxes = boxes_stay old new sound grows walk.boxes is.boxes }

-- ---- walks that are halted

-- one that goes on is, where it is
pub halted_here : {next : List ℕ → ℕ} {p : ℤ → ℤ → ℕ} {nodes : List Node} {walk : Walk} → IsWalk next p nodes walk → (begun end : ℕ) → begun ≤ walk.generations → walk.generations ≤ end → IsHalted next p nodes begun end walk
halted_here is begun end some few = record { now = is.now; others = is.others; later = some; within = few }

-- one that began later, up to a nearer end
pub halted_within : {next : List ℕ → ℕ} {p : ℤ → ℤ → ℕ} {nodes : List Node} {begun end : ℕ} {walk : Walk} → IsHalted next p nodes begun end walk → (first last : ℕ) → first ≤ begun → end ≤ last → IsHalted next p nodes first last walk
halted_within is first last more few =
    let begins = is.later in
    let ends = is.within in
    record { now = is.now; others = is.others; later = omega (arith, more, begins); within = omega (arith, few, ends) }

-- ---- looks

-- what a look found, from an earlier generation onwards
pub looked_from : (next : List ℕ → ℕ) (p : ℤ → ℤ → ℕ) (nodes : List Node) (first least end : ℕ) (walk : Walk) (found : Option Ending) → first ≤ least → IsLookedAt next p nodes least end walk found
    → IsLookedAt next p nodes first end walk found
looked_from next p nodes first least end walk None few walked = let begun = walked.1 in (walked.0, omega (arith, few, begun), walked.2)
looked_from next p nodes first least end walk (Some ending) few ends = ends

-- ---- the work that steps take

three_parts : (a b c x : ℕ) → (a + b + c) * x ≡ a * x + b * x + c * x
three_parts a b c x = omega arith

-- the first steps, some of which may have been taken before, and what the early ones may take
pub step_then_early : (old mid new : ℕ) (stages : ℕ → ℤ → ℤ → ℕ) (begun sure limit : ℕ) → sure ≤ limit → TakesSteps old mid stages sure (sure - begun) → new ≤ mid + early_work limit
    → TakesEarly old new stages begun sure limit
step_then_early old mid new stages begun sure limit few takes early level some holds =
    let first = takes level some (λ m less. holds m (omega (arith, less, few))) in
    omega (arith, first, early)

-- a search from where some of the first steps were taken: the other ones, the early ones and their planes, leaps and strides, and the steps that are left
pub whole_search : (old mid leapt new : ℕ) (stages : ℕ → ℤ → ℤ → ℕ) (begun sure limit : ℕ) → begun ≤ sure → sure ≤ limit → TakesEarly old mid stages begun sure limit
    → leapt ≤ mid + early_work limit + leap_work limit + leap_work limit
    → TakesSteps leapt new stages limit (limit - sure) → TakesSearchFrom old new stages begun limit
whole_search old mid leapt new stages begun sure limit later few early leaps rest level some holds =
    let x = 14 ^ (level + 2) in
    let started = early level some holds in
    let ended = rest level some holds in
    let all : begun + (sure - begun) + (limit - sure) ≡ limit = omega (arith, later, few) in
    let parts = three_parts begun (sure - begun) (limit - sure) (13 * x) in
    let both : limit * (13 * x) ≡ begun * (13 * x) + (sure - begun) * (13 * x) + (limit - sure) * (13 * x) =
    subst (λ n. n * (13 * x) ≡ begun * (13 * x) + (sure - begun) * (13 * x) + (limit - sure) * (13 * x)) all parts in
    let power = power_more 3 (level + 2) (omega (arith, some)) in
    let share : limit * 14 ^ 3 ≤ limit * x = mul-le-mul_left limit power in
    let up : 14 ^ (level + 3) ≡ 14 * x = power_next (level + 2) (level + 3) (omega arith) in
    let top : limit * 14 ^ (level + 3) ≡ limit * (13 * x) + limit * x = subst (λ k. limit * k ≡ limit * (13 * x) + limit * x) (sym up) (omega arith) in
    omega (arith, started, leaps, ended, both, share, top)
  where
    power_next : (g h : ℕ) → h ≡ suc g → 14 ^ h ≡ 14 * 14 ^ g
    power_next g h e = subst (λ k. 14 ^ k ≡ 14 * 14 ^ g) (sym e) (power_suc g)

-- its early ones alone
pub early_search : (old new : ℕ) (stages : ℕ → ℤ → ℤ → ℕ) (begun sure limit : ℕ) → begun ≤ sure → sure ≤ limit → TakesEarly old new stages begun sure limit → TakesSearchFrom old new stages begun limit
early_search old new stages begun sure limit later few takes =
    whole_search old new new new stages begun sure limit later few takes (omega arith) (no_step new new stages limit (limit - sure) refl)

-- its first steps alone, from wherever they were taken
pub first_search : (old new : ℕ) (stages : ℕ → ℤ → ℤ → ℕ) (begun sure limit : ℕ) → begun ≤ sure → sure ≤ limit → TakesSteps old new stages sure (sure - begun) → TakesSearch old new stages limit
first_search old new stages begun sure limit later few takes level some holds =
    let early = step_then_early old new new stages begun sure limit few takes (omega arith) in
    let most = early_search old new stages begun sure limit later few early level some holds in
    omega (arith, most)

-- some steps, and a search from there
pub step_then_search : (old mid new : ℕ) (stages : ℕ → ℤ → ℤ → ℕ) (begun sure limit : ℕ) → sure ≤ limit → TakesSteps old mid stages sure (sure - begun) → TakesSearchFrom mid new stages sure limit → TakesSearch old new stages limit
step_then_search old mid new stages begun sure limit few first rest level some holds =
    let one = fewer_steps old mid stages sure (sure - begun) sure (omega arith) first level some (λ m less. holds m (omega (arith, less, few))) in
    let most = rest level some holds in
    omega (arith, one, most)

-- a run, and no step
pub run_alone : (next : List ℕ → ℕ) (p : ℤ → ℤ → ℕ) (old new level n limit : ℕ) → TakesRun old new level n → TakesRunAndSearch old new level n (cells_after next p) limit
run_alone next p old new level n limit run digits height short some holds =
    let first = run digits short in
    omega (arith, first)

-- a run, and steps from there
pub run_then_steps : (next : List ℕ → ℕ) (p : ℤ → ℤ → ℕ) (old mid new level n limit : ℕ) (nodes : List Node) (start : Tree) → IsLaterTree next p n nodes start
    → TakesRun old mid level n → TakesSearch mid new (cells_after next (cell nodes start)) limit → TakesRunAndSearch old new level n (cells_after next p) limit
run_then_steps next p old mid new level n limit nodes start is run steps digits height short some holds =
    let first = run digits short in
    let most = steps height some (λ m less x y live. holds m less x y (λ none. live (after_same next (cell nodes start) (cells_after next p n) m is.shows x y ∙ after_again next p n m x y ∙ none))) in
    omega (arith, first, most)

-- a run of a higher tree may need more
pub run_more : (n low high digits : ℕ) → low ≤ high → run_work n low digits ≤ run_work n high digits
run_more zero low high digits less = omega arith
run_more (suc n) low high digits less = power_more (low + digits + 2) (high + digits + 2) (omega (arith, less))
