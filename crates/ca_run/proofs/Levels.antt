-- How large trees become over generations.
use Rattle.std.proofs.Common.{◌≡◌, ℕ, suc, ◌+◌, ◌-◌, ◌/◌, ◌%◌, ◌<◌, ◌≤◌, ◌^◌, inl, inr, min, max, Result, Ok, Err, IfOk, List, sym, subst, ◌∙◌, arith}
use Rattle.std.specs.Prelude.{ℤ, pos, ◌+ℤ◌, replicate}
use Rattle.std.proofs.Math.Nat.{mul-le-mul_right}
use Rattle.std.proofs.lemmas.Int.{ints}
use Rattle.ca_plane.specs.Prelude.{cells_after}
use Rattle.ca_quad.specs.declared.{node.Node.Node, tree.Tree.Tree}
use Rattle.ca_quad.specs.Prelude.{cell, IsWithinLevel, HoldsAll, IsTrimmed}
use Rattle.ca_quad.proofs.FilledSquares.{place_on}
use Rattle.ca_plane.proofs.Numbers.{below_or_not}
use Rattle.ca_quad.proofs.Reach.{tree_holds}
use Rattle.ca_run.specs.inner.Beyond.{IsBeyond, DiesBeyond}
use Rattle.ca_run.specs.Prelude.{Costs, LeaperView}
use Rattle.ca_run.specs.inner.Dense.{IsLow, HasLeapt}
use Rattle.ca_run.proofs.Costs.{costs_then, costs_more, digit_below, rising_cost, level_cost, first_digits, all_digits}
use Rattle.ca_budget.proofs.Powers.{power_more}
use Rattle.ca_run.proofs.Trees.{tree_dies, later_dies, powers_fit}

-- what isn't beyond half the side of a level lies within it
within_level : (level : ℕ) (x : ℤ) → (IsBeyond (2 ^ (level - 1)) x → ⊥) → IsWithinLevel level x
within_level level x near =
    let half = 2 ^ (level - 1) in
    elim (place_on (x +ℤ pos half) (half + half)) [
      | inl on ↦ let place = on.1 in let low = on.2 in (omega (arith, ints, place, low), omega (arith, ints, place, low))
      | inr (inl west) ↦ absurd (near (inl (omega (arith, ints, west))))
      | inr (inr east) ↦ absurd (near (inr (omega (arith, ints, east))))
    ]

-- a level holds all that is live, where all is dead beyond half its side
level_holds : (level : ℕ) (p : ℤ → ℤ → ℕ) → DiesBeyond (2 ^ (level - 1)) p → HoldsAll level p
level_holds level p dies x y live = (within_level level x (λ out. live (dies x y (inl out))), within_level level y (λ out. live (dies x y (inr out))))

module _ (next : List ℕ → ℕ) (quiet : next (replicate 9 0) ≡ 0) (old : List Node) (first : Tree) (some : 1 ≤ first.level) (n d : ℕ) (time : n < 2 ^ d) where
  -- the level that holds the cells of a tree after fewer generations than two to a power
  later_holds : HoldsAll (max first.level (suc d) + 1) (cells_after next (cell old first) n)
  later_holds =
      let top = max first.level (suc d) in
      let half : top + 1 - 1 ≡ top = omega arith in
      let fit = powers_fit first.level d top some (omega arith) (omega arith) in
      level_holds (top + 1) (cells_after next (cell old first) n)
      (subst (λ h. DiesBeyond (2 ^ h) (cells_after next (cell old first) n)) (sym half)
      (later_dies next quiet (cell old first) (2 ^ (first.level - 1)) n (2 ^ top) (omega (arith, fit, time)) (tree_dies old first some)))

  -- a tree of them that is low has no higher one
  pub later_level : (new : List Node) (now : Tree) → IsLow first.level new now → ((x y : ℤ) → cell new now x y ≡ cells_after next (cell old first) n x y) → now.level ≤ max first.level (suc d) + 1
  later_level new now low same = low (max first.level (suc d) + 1) (omega arith) (λ x y live. later_holds x y (λ none. live (same x y ∙ none)))

-- a trimmed tree is low
pub trimmed_low : (nodes : List Node) (tree : Tree) (least : ℕ) → 1 ≤ least → IsTrimmed nodes tree → IsLow least nodes tree
trimmed_low nodes tree least some trimmed level more holds = elim (below_or_not level tree.level) [ inl less ↦ absurd (trimmed level (omega arith) less holds) | inr most ↦ most ]

-- and stays so
pub low_stays : (old new : List Node) (tree : Tree) (least : ℕ) → ((x y : ℤ) → cell new tree x y ≡ cell old tree x y) → IsLow least old tree → IsLow least new tree
low_stays old new tree least same low level more holds = low level more (λ x y live. holds x y (λ none. live (sym (same x y) ∙ none)))

-- trimming makes no tree larger
pub trim_level : {E : Type 0} (r : Result Tree E) (old new : List Node) (tree : Tree) → 1 ≤ tree.level → IfOk r (λ t. (x y : ℤ) → cell new t x y ≡ cell old tree x y) → IfOk r (IsTrimmed new) → IfOk r (λ t. t.level ≤ tree.level)
trim_level (Err e) old new tree some same trimmed = tt
trim_level (Ok t) old new tree some same trimmed = elim (below_or_not tree.level t.level) [
  | inl less ↦ absurd (trimmed tree.level some less (λ x y live. tree_holds old tree tree.level some (omega arith) x y (λ none. live (same x y ∙ none))))
  | inr most ↦ most
]

-- ---- what leaps cost

module _ {Rule : Type 0} (old : LeaperView Rule) (first : Tree) (reached n : ℕ) where
  -- no more than for more digits
  pub leapt_more : {new : LeaperView Rule} (j i : ℕ) → j ≤ i → HasLeapt Rule old first reached n j new → HasLeapt Rule old first reached n i new
  leapt_more j i more leapt = record {
    rising = λ none d less. costs_more (leapt.rising none d less) (power_more (first.level + min d j + 1) (first.level + min d i + 1) (omega (arith, more))) (omega (arith, more));
    later = λ d less. costs_more (leapt.later d less) (mul-le-mul_right (14 ^ (max first.level d + 2)) more) (omega (arith, more));
  }

  -- and for one that is 1 as much as a leap of the tree that is reached
  module _ (next : List ℕ → ℕ) (quiet : next (replicate 9 0) ≡ 0) (s0 s1 : List Node) (some : 1 ≤ first.level) (now : Tree) (low : IsLow first.level s1 now) (left j : ℕ) (sum : reached + left ≡ n)
      (digit : left / 2 ^ j % 2 ≡ 1) (cells : (x y : ℤ) → cell s1 now x y ≡ cells_after next (cell s0 first) (reached + left % 2 ^ j) x y) where
    level : (d : ℕ) → reached + left % 2 ^ j < 2 ^ d → now.level ≤ max first.level (suc d) + 1
    level d time = later_level next quiet s0 first some (reached + left % 2 ^ j) d time s1 now low cells

    pub one_leapt : {mid new : LeaperView Rule} → HasLeapt Rule old first reached n j mid → Costs Rule mid new (14 ^ max now.level (j + 1)) 16380 → HasLeapt Rule old first reached n (j + 1) new
    one_leapt leapt leap = record {
      rising = λ none d less.
          costs_then (leapt.rising none d less) leap
          (rising_cost first.level d j now.level (digit_below left j d digit (omega (arith, less, sum))) some (level j (first_digits reached left j none))) (omega arith);
      later = λ d less.
          costs_then (leapt.later d less) leap
          (level_cost first.level d j now.level (digit_below left j d digit (omega (arith, less, sum))) (level d (all_digits reached left n j d sum less))) (omega arith);
    }
