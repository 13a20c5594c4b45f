-- What a run has reached, as its squares grow.
use Rattle.std.proofs.Common.{◌≡◌, ℕ, suc, ◌+◌, ◌-◌, ◌*◌, ◌<◌, ◌≤◌, ◌^◌, ◌⊎◌, inl, inr, min, Result, Ok, Err, IfOk, List, refl, sym, ap, ◌∙◌, arith}
use Rattle.std.specs.Prelude.{ℤ, replicate}
use Rattle.std.proofs.Math.Nat.{mul_assoc, mul-le-mul, mul-le-mul_left, mul-le-mul_right}
use Rattle.std.proofs.lemmas.Nat.{pow-add}
use Rattle.ca_plane.proofs.Numbers.{below_or_not}
use Rattle.ca_plane.specs.Prelude.{cells_after}
use Rattle.ca_quad.specs.declared.{node.Node.Node, tree.Tree.Tree}
use Rattle.ca_quad.specs.Prelude.{IsSoundStore, Grows, IsTree, cell, IsTrimmed}
use Rattle.ca_quad.proofs.Cells.{of_stays}
use Rattle.ca_quad.proofs.Growth.{grows_same}
use Rattle.ca_run.specs.declared.leaper.dense.ReachedTree.{ReachedTree}
use Rattle.ca_budget.specs.declared.fault.LeapFault.{LeapFault}
use Rattle.ca_run.specs.Prelude.{IsAdvanced, Costs, LeaperView}
use Rattle.ca_budget.specs.Prelude.{Spent}
use Rattle.ca_run.specs.inner.OwnStore.{IsCopyOfTree}
use Rattle.ca_run.specs.inner.AtCost.{GoesOnAtCost, SpendsAtMost}
use Rattle.ca_run.specs.inner.Dense.{HasReached, IsIdle, IsDense, HasLeapt, HasParted}
use Rattle.ca_plane.proofs.After.{after_same, after_again}
use Rattle.ca_run.proofs.Costs.{costs_then, costs_more, at_cost_more, at_both_costs, one_more, six_digits, grids_cost, dense_cost, countable_one}
use Rattle.ca_budget.proofs.Powers.{power_more, power_suc, countable_cost}
use Rattle.ca_run.proofs.Levels.{low_stays, later_level, trimmed_low}
use Rattle.ca_run.proofs.Trees.{tree_stays}

-- a run of a tree is one of another with the same cells
reached_as : (next : List ℕ → ℕ) (a b new : List Node) (first : Tree) (n : ℕ) (reached : ReachedTree) → ((x y : ℤ) → cell a first x y ≡ cell b first x y)
    → HasReached next a first n new reached → HasReached next b first n new reached
reached_as next a b new first n reached same run = record {
  is_tree = run.is_tree;
  low = run.low;
  most = run.most;
  cells = λ x y. run.cells x y ∙ after_same next (cell a first) (cell b first) reached.generations same x y;
}

-- of the first tree as it is among the squares by now
pub reached_now : (next : List ℕ → ℕ) (old new : List Node) (first : Tree) (n : ℕ) (reached : ReachedTree) → IsSoundStore old → Grows old new → IsTree old first
    → HasReached next old first n new reached → HasReached next new first n new reached
reached_now next old new first n reached sound grows is_tree = reached_as next old new new first n reached (λ x y. sym (tree_stays old new sound grows first is_tree x y))

-- and as it was before some of them
pub reached_before : (next : List ℕ → ℕ) (old mid new : List Node) (first : Tree) (n : ℕ) (reached : ReachedTree) → IsSoundStore old → Grows old mid → IsTree old first
    → HasReached next mid first n new reached → HasReached next old first n new reached
reached_before next old mid new first n reached sound grows is_tree = reached_as next mid old new first n reached (tree_stays old mid sound grows first is_tree)

-- what is reached stays reached
pub reached_stays : (next : List ℕ → ℕ) (old new : List Node) (first : Tree) (n : ℕ) (reached : ReachedTree) → IsSoundStore old → Grows old new → IsTree old first
    → HasReached next old first n old reached → HasReached next new first n new reached
reached_stays next old new first n reached sound grows is_tree run = record {
  is_tree = of_stays old new sound grows reached.tree.root reached.tree.level run.is_tree;
  low = low_stays old new reached.tree first.level (tree_stays old new sound grows reached.tree run.is_tree) run.low;
  most = run.most;
  cells = λ x y.
      tree_stays old new sound grows reached.tree run.is_tree x y ∙ run.cells x y
      ∙ after_same next (cell old first) (cell new first) reached.generations (λ u v. sym (tree_stays old new sound grows first is_tree u v)) x y;
}

-- and as more squares come
pub reached_kept : (next : List ℕ → ℕ) (old mid new : List Node) (first : Tree) (n : ℕ) (reached : ReachedTree) → IsSoundStore mid → Grows mid new
    → HasReached next old first n mid reached → HasReached next old first n new reached
reached_kept next old mid new first n reached sound grows run = record {
  is_tree = of_stays mid new sound grows reached.tree.root reached.tree.level run.is_tree;
  low = low_stays mid new reached.tree first.level (tree_stays mid new sound grows reached.tree run.is_tree) run.low;
  most = run.most;
  cells = λ x y. tree_stays mid new sound grows reached.tree run.is_tree x y ∙ run.cells x y;
}

module _ (next : List ℕ → ℕ) (s0 s1 : List Node) (first : Tree) (n : ℕ) (reached : ReachedTree) (run : HasReached next s0 first n s1 reached) where
  -- what is reached has a low level
  pub reached_level : next (replicate 9 0) ≡ 0 → 1 ≤ first.level → first.level ≤ 64 → n ≤ 2 ^ 60 → reached.tree.level ≤ 123
  reached_level quiet some most time =
      let low = later_level next quiet s0 first some reached.generations 61 (omega (arith, run.most, time)) s1 reached.tree run.low run.cells in
      omega (arith, low, most)

  -- one leap more
  pub leapt_on : (s2 : List Node) (more : Tree) (m k : ℕ) → 1 ≤ first.level → reached.generations + m ≡ k → k ≤ n → IsTree s2 more → IsTrimmed s2 more
      → ((x y : ℤ) → cell s2 more x y ≡ cells_after next (cell s1 reached.tree) m x y) → HasReached next s0 first n s2 (record { tree = more; generations = k })
  leapt_on s2 more m k some sum most is_tree trimmed leapt =
      let p = cell s0 first in
      record {
        is_tree = is_tree;
        low = trimmed_low s2 more first.level some trimmed;
        most = most;
        cells = λ x y.
            leapt x y ∙ after_same next (cell s1 reached.tree) (cells_after next p reached.generations) m run.cells x y ∙ after_again next p reached.generations m x y
            ∙ ap (λ t. cells_after next p t x y) sum;
      }

  -- the same tree in another store
  pub reached_moved : (s2 : List Node) (copy : Tree) → IsCopyOfTree s1 reached.tree s2 copy → HasReached next s0 first n s2 (record { tree = copy; generations = reached.generations })
  reached_moved s2 copy moved = record {
    is_tree = moved.is_tree;
    low = λ level more holds. omega (arith, moved.level, run.low level more (λ x y live. holds x y (λ none. live (sym (moved.cells x y) ∙ none))));
    most = run.most;
    cells = λ x y. moved.cells x y ∙ run.cells x y;
  }

  -- where all generations are reached, the tree is the last
  pub advanced_at : reached.generations ≡ n → reached.tree.level ≤ 123 → IsAdvanced next s0 first n s1 reached.tree
  advanced_at all low = record {
    is_tree = run.is_tree;
    level = omega (arith, low);
    cells = λ x y. run.cells x y ∙ ap (λ t. cells_after next (cell s0 first) t x y) all;
  }

-- what a run ends with, of the first tree as it was before
pub advanced_before : {E : Type 0} (next : List ℕ → ℕ) (old mid new : List Node) (first : Tree) (n : ℕ) (r : Result Tree E) → IsSoundStore old → Grows old mid → IsTree old first
    → IfOk r (IsAdvanced next mid first n new) → IfOk r (IsAdvanced next old first n new)
advanced_before next old mid new first n (Err e) sound grows is_tree advanced = tt
advanced_before next old mid new first n (Ok tree) sound grows is_tree advanced = record {
  is_tree = advanced.is_tree;
  level = advanced.level;
  cells = λ x y. advanced.cells x y ∙ after_same next (cell mid first) (cell old first) n (tree_stays old mid sound grows first is_tree) x y;
}

module _ {Rule : Type 0} {old mid : LeaperView Rule} (first : Tree) (n d : ℕ) (time : n < 2 ^ d) where
  -- what a run costs that ends among its steps
  pub stepped_cost : (r : Result ReachedTree LeapFault) → IsIdle Rule old mid r ⊎ IsDense Rule old first n mid → Costs Rule old mid (14 ^ (first.level + d + 2)) 1048576
  stepped_cost r (inl idle) = costs_more idle.costs (omega arith) (omega arith)
  stepped_cost r (inr dense) =
      let many = six_digits n d dense.many time in
      costs_more dense.costs (power_more (first.level + 6) (first.level + d + 2) (omega (arith, many))) (omega arith)

  -- and one that leaps after them
  pub whole_cost : {new : LeaperView Rule} (reached : ReachedTree) → IsIdle Rule old mid (Ok reached) ⊎ IsDense Rule old first n mid
      → HasLeapt Rule mid first reached.generations n 61 new → Costs Rule old new (14 ^ (first.level + d + 2)) 1048576
  whole_cost reached (inl idle) leapt =
      let more = power_more (first.level + min d 61 + 1) (first.level + d + 2) (omega arith) in
      costs_then idle.costs (leapt.rising idle.none d time) (omega (arith, more)) (omega arith)
  whole_cost reached (inr dense) leapt = costs_then dense.costs (leapt.later d time) (dense_cost first.level d dense.least (six_digits n d dense.many time)) (omega arith)

  -- and one that went on in a store of its own
  pub parted_cost : {new : LeaperView Rule} (r : Result ReachedTree LeapFault) → IsIdle Rule old mid r ⊎ IsDense Rule old first n mid
      → HasParted Rule mid first n new → Costs Rule old new (14 ^ (first.level + d + 2)) 1048576
  parted_cost r (inl idle) parted = record {
    most = omega (arith, countable_cost first.level d _ (parted.long d time) parted.used);
    made = omega (arith, idle.costs.made, parted.made);
  }
  parted_cost r (inr dense) parted = record {
    most = omega (arith, countable_cost first.level d _ (parted.long d time) parted.used);
    made = omega (arith, dense.costs.made, parted.made);
  }

module _ {Rule : Type 0} {old mid : LeaperView Rule} (first : Tree) (n : ℕ) (single : n ≡ 1) where
  -- what one generation costs that ends before its leap: no bricks are stepped for it
  pub stepped_one : (r : Result ReachedTree LeapFault) → IsIdle Rule old mid r ⊎ IsDense Rule old first n mid → Costs Rule old mid (13 * 14 ^ (first.level + 2)) 1048576
  stepped_one r (inl idle) = costs_more idle.costs (omega arith) (omega arith)
  stepped_one r (inr dense) =
      let many = dense.many in
      absurd (omega (arith, many, single))

  -- and one that leaps
  pub whole_one : {new : LeaperView Rule} (reached : ReachedTree) → IsIdle Rule old mid (Ok reached) ⊎ IsDense Rule old first n mid
      → HasLeapt Rule mid first reached.generations n 61 new → Costs Rule old new (13 * 14 ^ (first.level + 2)) 1048576
  whole_one reached (inl idle) leapt =
      let more = power_more (first.level + min 1 61 + 1) (first.level + 2) (omega arith) in
      costs_then idle.costs (leapt.rising idle.none 1 (omega (arith, single))) (omega (arith, more)) (omega arith)
  whole_one reached (inr dense) leapt =
      let many = dense.many in
      absurd (omega (arith, many, single))

  -- and one that went on in a store of its own
  pub parted_one : {new : LeaperView Rule} (r : Result ReachedTree LeapFault) → IsIdle Rule old mid r ⊎ IsDense Rule old first n mid
      → HasParted Rule mid first n new → Costs Rule old new (13 * 14 ^ (first.level + 2)) 1048576
  parted_one r (inl idle) parted =
      let long = parted.long 1 (omega (arith, single)) in
      record {
        most = omega (arith, countable_one first.level _ (omega (arith, long)) parted.used);
        made = omega (arith, idle.costs.made, parted.made);
      }
  parted_one r (inr dense) parted =
      let many = dense.many in
      absurd (omega (arith, many, single))

-- ---- what grids cost

-- bricks are stepped: work is counted, and nothing else is done
pub at_stepping_cost : {Rule : Type 0} (l : LeaperView Rule) (spent : Spent) → IsSoundStore l.nodes → (n count : ℕ) → n ≤ 1024 → count ≤ 2 ^ 18 → SpendsAtMost l.spent spent (n * count)
    → GoesOnAtCost Rule l (record { rule = l.rule; nodes = l.nodes; memo = l.memo; spent = spent }) (2 ^ 28) 0
at_stepping_cost l spent sound n count time few charged =
    let all : n * count ≤ 1024 * 2 ^ 18 = mul-le-mul time few in
    record {
      goes_on = record { rule = refl; grows = grows_same l.nodes sound; memo = refl; spends = charged.spends };
      costs = record { most = omega (arith, charged.most, all); made = omega (arith, charged.spends.rises) };
    }

-- these levels are few
pub growth_low : (n g : ℕ) → (1 + n) * 14 ^ g ≤ 21 * 14 ^ 5 → g ≤ 6
growth_low n g cheap = elim (below_or_not g 7) [
  | inl low ↦ omega (arith, low)
  | inr high ↦
      let more : 14 ^ 7 ≤ 14 ^ g = power_more 7 g high in
      let all : 1 * 14 ^ g ≤ (1 + n) * 14 ^ g = mul-le-mul_right (14 ^ g) (omega arith) in
      absurd (omega (arith, more, all, cheap))
]

-- what a tree takes of squares that take n units each at most, and of a reach at most g levels above the first tree's
grid_low : (n g k reach : ℕ) → (1 + n) * 14 ^ g ≤ 21 * 14 ^ 5 → reach ≤ k + g → 7 ≤ k → (1 + n) * 14 ^ (reach - 2) ≤ 21 * 14 ^ (k + 3)
grid_low n g k reach cheap near least =
    let few : 14 ^ (reach - 2) ≤ 14 ^ (g + (k - 2)) = power_more (reach - 2) (g + (k - 2)) (omega (arith, near, least)) in
    let all : (1 + n) * 14 ^ (reach - 2) ≤ (1 + n) * 14 ^ (g + (k - 2)) = mul-le-mul_left (1 + n) few in
    let split : (1 + n) * 14 ^ (g + (k - 2)) ≡ ((1 + n) * 14 ^ g) * 14 ^ (k - 2) = ap (λ m. (1 + n) * m) (pow-add 14 g (k - 2)) ∙ sym (mul_assoc (1 + n) (14 ^ g) (14 ^ (k - 2))) in
    let most : ((1 + n) * 14 ^ g) * 14 ^ (k - 2) ≤ (21 * 14 ^ 5) * 14 ^ (k - 2) = mul-le-mul_right (14 ^ (k - 2)) cheap in
    let five : 5 + (k - 2) ≡ k + 3 = omega (arith, least) in
    let whole : 14 ^ (k + 3) ≡ 14 ^ 5 * 14 ^ (k - 2) = ap (λ m. 14 ^ m) (sym five) ∙ pow-add 14 5 (k - 2) in
    omega (arith, all, split, most, whole)

-- the grid becomes a tree
pub at_grid_cost : {Rule : Type 0} {a b d : LeaperView Rule} (n g k reach : ℕ) → (1 + n) * 14 ^ g ≤ 21 * 14 ^ 5 → reach ≤ k + g → 7 ≤ k → GoesOnAtCost Rule a b (2 ^ 28) 0 → GoesOnAtCost Rule b d ((1 + n) * 14 ^ (reach - 2)) 125
    → GoesOnAtCost Rule a d (2 * 14 ^ (k + 4)) 125
at_grid_cost n g k reach cheap near least stepped made =
    let few = grid_low n g k reach cheap near least in
    let low = power_more 10 (k + 3) (omega (arith, least)) in
    let next = power_suc (k + 3) in
    let same : k + 4 ≡ suc (k + 3) = omega arith in
    at_cost_more (at_both_costs stepped made) (rw same (omega (arith, few, low, next))) (omega arith)

module _ {Rule : Type 0} {old mid new : LeaperView Rule} (first : Tree) (i : ℕ) (before : Costs Rule old mid (i * (2 * 14 ^ (first.level + 4))) (255 * i)) (now : Costs Rule mid new (2 * 14 ^ (first.level + 4)) 255) where
  -- one grid after others
  pub grid_more : Costs Rule old new ((i + 1) * (2 * 14 ^ (first.level + 4))) (255 * (i + 1))
  grid_more = costs_then before now (one_more i (2 * 14 ^ (first.level + 4)) (2 * 14 ^ (first.level + 4)) (omega arith)) (omega arith)

-- and all grids are no more than eight
pub grids_done : {Rule : Type 0} {old new : LeaperView Rule} (first : Tree) (n i : ℕ) → 7 ≤ first.level → 32 ≤ n → i ≤ 8 → Costs Rule old new (i * (2 * 14 ^ (first.level + 4))) (255 * i) → IsDense Rule old first n new
grids_done first n i least many few costs = record { least = least; many = many; costs = costs_more costs (grids_cost i first.level few) (omega (arith, few)) }

-- nor are those before and one grid more
pub grids_end : {Rule : Type 0} {old mid new : LeaperView Rule} (first : Tree) (n i : ℕ) → 7 ≤ first.level → 32 ≤ n → i < 8 → Costs Rule old mid (i * (2 * 14 ^ (first.level + 4))) (255 * i)
    → Costs Rule mid new (2 * 14 ^ (first.level + 4)) 255 → IsDense Rule old first n new
grids_end first n i least many few before now = grids_done first n (i + 1) least many (omega (arith, few)) (grid_more first i before now)
