-- Trees of planes that are looked at, and what their planes show after some generations.
use Rattle.std.proofs.Common.{◌≡◌, ℕ, ◌≤◌, ◌^◌, List, sym, ◌∙◌, arith}
use Rattle.std.specs.Prelude.{ℤ, replicate}
use Rattle.ca_plane.specs.Prelude.{Picture, after, cells_after}
use Rattle.ca_plane.specs.Plane as plane
use Rattle.ca_quad.specs.declared.{node.Node.Node, tree.Tree.Tree}
use Rattle.ca_quad.specs.Prelude.{IsSoundStore, Grows, cell, IsTrimmed, HoldsAll}
use Rattle.ca_quad.proofs.Cells.{of_stays}
use Rattle.ca_quad.proofs.Trims.{trees_stay}
use Rattle.ca_macro.specs.Prelude.{AreInRange}
use Rattle.ca_plane.proofs.After.{after_same}
use Rattle.ca_pattern.specs.Prelude.{IsWithinPlane, IsStart, IsLaterTree, ShowsTree, IsNearTree}
use Rattle.ca_pattern.proofs.CellsNearMiddle.{held_near, later_held, trimmed_low}
use Rattle.ca_pattern.proofs.LaterPlanes.{later_holds, later_is_low}

-- that of its plane, after some generations, is such a tree too
pub later_start : (next : List ℕ → ℕ) (p : ℤ → ℤ → ℕ) (n : ℕ) (nodes : List Node) (tree : Tree) → next (replicate 9 0) ≡ 0 → AreInRange p → n ≤ 2 ^ 60
    → IsLaterTree next p n nodes tree → IsStart nodes tree
later_start next p n nodes tree quiet range few is =
    let low = later_is_low next p n quiet range few nodes tree is.trimmed is.shows in
    record {
      is_tree = is.near.is_tree;
      low = omega (arith, low);
      trimmed = is.trimmed;
      within = λ x y live. later_holds next p n quiet range few x y (λ none. live (is.shows x y ∙ none));
    }

-- one stays such a tree
pub start_stays : (old new : List Node) → IsSoundStore old → Grows old new → (tree : Tree) → IsStart old tree → IsStart new tree
start_stays old new sound grows tree is =
    let same = trees_stay old new sound grows tree is.is_tree in
    record {
      is_tree = of_stays old new sound grows tree.root tree.level is.is_tree;
      low = is.low;
      trimmed = λ level some less holds. is.trimmed level some less (λ x y live. holds x y (λ none. live (sym (same x y) ∙ none)));
      within = λ x y live. is.within x y (λ none. live (same x y ∙ none));
    }

-- ---- what its plane shows after some generations

module _ (next : List ℕ → ℕ) (p : ℤ → ℤ → ℕ) (n : ℕ) (quiet : next (replicate 9 0) ≡ 0) (within : HoldsAll 62 p) (few : n ≤ 2 ^ 61) where
  -- the live cells lie in a square of 2^63 cells a side
  start_holds : HoldsAll 63 (cells_after next p n)
  start_holds = later_held next p n quiet 62 63 (omega (arith, few)) within

  -- so none lies outside the square of a plane
  pub start_near : IsWithinPlane (cells_after next p n)
  start_near = held_near (cells_after next p n) 63 (omega arith) start_holds

  -- and a tree of the smallest level that shows them is a low one
  pub start_is_low : (nodes : List Node) (tree : Tree) → IsTrimmed nodes tree → ((x y : ℤ) → cell nodes tree x y ≡ cells_after next p n x y) → tree.level ≤ 63
  start_is_low nodes tree trimmed shows = trimmed_low nodes tree (cells_after next p n) 63 (omega arith) trimmed shows start_holds

-- ---- pictures

-- a picture of a tree after some generations is what the plane has then
pub picture_after : (next : List ℕ → ℕ) (p : ℤ → ℤ → ℕ) (cells later : Picture) (n : ℕ) (nodes : List Node) (tree : Tree) → ((x y : ℤ) → plane.cell cells x y ≡ p x y)
    → IsLaterTree next p n nodes tree → ShowsTree nodes tree later → (x y : ℤ) → after next cells n x y ≡ plane.cell later x y
picture_after next p cells later n nodes tree shows is shown x y = after_same next (plane.cell cells) p n shows x y ∙ sym (is.shows x y) ∙ sym (shown x y)

-- ---- as a tree near the origin

-- such a tree has no live cell outside the square of a plane
pub near_start : (nodes : List Node) (tree : Tree) → IsStart nodes tree → IsNearTree nodes tree
near_start nodes tree is = record { is_tree = is.is_tree; low = let low = is.low in omega (arith, low); near = held_near (cell nodes tree) 62 (omega arith) is.within }
