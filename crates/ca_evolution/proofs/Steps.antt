-- Trees that are advanced one generation after the other, and what work that takes.
use Rattle.std.proofs.Common.{◌≡◌, ℕ, zero, suc, ◌+◌, ◌*◌, ◌^◌, ◌≤◌, ◌<◌, List, refl, ◌∙◌, arith}
use Rattle.std.proofs.Math.Nat.{mul-le-mul_right}
use Rattle.std.specs.Prelude.{ℤ, replicate}
use Rattle.ca_plane.specs.Prelude.{cells_after, longest_period}
use Rattle.ca_plane.proofs.After.{after_same, after_again}
use Rattle.ca_quad.specs.declared.{node.Node.Node, tree.Tree.Tree}
use Rattle.ca_quad.specs.Prelude.{cell, IsTrimmed, HoldsAll}
use Rattle.ca_budget.proofs.Powers.{power_more}
use Rattle.ca_pattern.specs.Prelude.{IsWithinPlane, IsStart, IsLaterTree}
use Rattle.ca_pattern.proofs.CellsNearMiddle.{trimmed_low}
use Rattle.ca_pattern.proofs.Starts.{near_start, start_near}
use Rattle.ca_evolution.specs.Prelude.{Takes, TakesSteps, TakesRun, step_work}

-- ---- one generation later

-- after no generation
pub first_tree : (next : List ℕ → ℕ) (nodes : List Node) (tree : Tree) → IsStart nodes tree → IsLaterTree next (cell nodes tree) 0 nodes tree
first_tree next nodes tree is = record { near = near_start nodes tree is; low = let low = is.low in omega (arith, low); trimmed = is.trimmed; shows = λ x y. refl }

module _ (next : List ℕ → ℕ) (p : ℤ → ℤ → ℕ) (n : ℕ) (nodes : List Node) (now : Tree) (is : IsLaterTree next p n nodes now) where
  one_on : (x y : ℤ) → cells_after next (cell nodes now) 1 x y ≡ cells_after next p (n + 1) x y
  one_on x y = after_same next (cell nodes now) (cells_after next p n) 1 is.shows x y ∙ after_again next p n 1 x y

  -- few generations after the start no live cell lies outside the square of a plane
  pub near_next : next (replicate 9 0) ≡ 0 → HoldsAll 62 p → n < longest_period → IsWithinPlane (cells_after next (cell nodes now) 1)
  near_next quiet within few = λ x y out. one_on x y ∙ start_near next p (n + 1) quiet within (omega (arith, few)) x y out

  -- the tree one generation after this one
  pub later_next : (new : List Node) (tree : Tree) → IsLaterTree next (cell nodes now) 1 new tree → IsLaterTree next p (n + 1) new tree
  later_next new tree later = record { near = later.near; low = later.low; trimmed = later.trimmed; shows = λ x y. later.shows x y ∙ one_on x y }

-- ---- the work that steps take

-- none
pub no_step : (old new : ℕ) (stages : ℕ → ℤ → ℤ → ℕ) (limit n : ℕ) → new ≡ old → TakesSteps old new stages limit n
no_step old new stages limit n same level some holds = omega (arith, same)

-- one more, from a trimmed tree of the live cells before it
pub one_more_step : (old mid new : ℕ) (stages : ℕ → ℤ → ℤ → ℕ) (limit n m : ℕ) (nodes : List Node) (tree : Tree) → IsTrimmed nodes tree → ((x y : ℤ) → cell nodes tree x y ≡ stages m x y)
    → m < limit → TakesSteps old mid stages limit n → new ≤ mid + step_work tree.level → TakesSteps old new stages limit (n + 1)
one_more_step old mid new stages limit n m nodes tree trimmed shows less before takes level some holds =
    let high = trimmed_low nodes tree (stages m) level some trimmed shows (holds m less) in
    let most = before level some holds in
    let power = power_more (tree.level + 2) (level + 2) (omega (arith, high)) in
    let sum : (n + 1) * (13 * 14 ^ (level + 2)) ≡ n * (13 * 14 ^ (level + 2)) + 13 * 14 ^ (level + 2) = omega arith in
    omega (arith, most, power, sum, takes)

-- more may be allowed
pub fewer_steps : (old new : ℕ) (stages : ℕ → ℤ → ℤ → ℕ) (limit n k : ℕ) → n ≤ k → TakesSteps old new stages limit n → TakesSteps old new stages limit k
fewer_steps old new stages limit n k few takes level some holds =
    let most = takes level some holds in
    let all : n * (13 * 14 ^ (level + 2)) ≤ k * (13 * 14 ^ (level + 2)) = mul-le-mul_right (13 * 14 ^ (level + 2)) few in
    omega (arith, most, all)

-- a run of some generations
pub some_run : (old new level n : ℕ) → (n ≡ 0 → ⊥) → Takes old new 1 level n → TakesRun old new level n
some_run old new level zero some takes = absurd (some refl)
some_run old new level (suc n) some takes = λ digits short.
    let most = takes digits short in
    omega (arith, most)
