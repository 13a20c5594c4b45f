-- What the smallest box of a tree, or its level, tells of the square of a plane.
use Rattle.std.proofs.Common.{ℕ, ◌+◌, ◌-◌, ◌≤◌, ◌^◌, inl, inr, ℤ, pos, ◌+ℤ◌, List, refl, arith}
use Rattle.std.proofs.lemmas.Int.{ints}
use Rattle.std.proofs.Math.Nat.{pow-le-pow_right}
use Rattle.ca_quad.specs.declared.{node.Node.Node, tree.Tree.Tree, tree.WideBounds.WideBounds}
use Rattle.ca_quad.specs.Prelude.{cell, HoldsAll, IsLeastWideBox, FitsPlane, HasCellOutsidePlane}
use Rattle.ca_quad.specs.inner.Reach.{IsBoxInReach, IsBoxOutOfReach}
use Rattle.ca_quad.proofs.Edges.{outside_x, outside_y}
use Rattle.ca_quad.proofs.FilledSquares.{place_on}

module _ (cells : ℤ → ℤ → ℕ) where
  module _ (box : WideBounds) (least : IsLeastWideBox cells box) where
    pub box_leaves : IsBoxOutOfReach box → HasCellOutsidePlane cells
    box_leaves (inl h) = (box.x0, least.left.0, least.left.1, λ i. absurd (omega (arith, ints, i.0)))
    box_leaves (inr (inl h)) = (box.x1, least.right.0, least.right.1, λ i. absurd (omega (arith, ints, i.1)))
    box_leaves (inr (inr (inl h))) = (least.top.0, box.y0, least.top.1, λ i. absurd (omega (arith, ints, i.2)))
    box_leaves (inr (inr (inr h))) = (least.bottom.0, box.y1, least.bottom.1, λ i. absurd (omega (arith, ints, i.3)))

    pub box_fits : IsBoxInReach box → FitsPlane cells
    box_fits h x y live =
        let k = least.all x y live in
        (omega (arith, ints), omega (arith, ints), omega (arith, ints), omega (arith, ints))

-- a tree holds all its live cells, and so does a larger one
pub tree_holds : (nodes : List Node) (tree : Tree) (level : ℕ) → 1 ≤ tree.level → tree.level ≤ level → HoldsAll level (cell nodes tree)
tree_holds nodes tree level some low x y live =
    let half = 2 ^ (tree.level - 1) in
    let more : half ≤ 2 ^ (level - 1) = pow-le-pow_right {n = 2} (omega arith) {i = tree.level - 1} {j = level - 1} (omega arith) in
    elim (place_on (x +ℤ pos half) (half + half)) [
      | inr off ↦ absurd (live (outside_x nodes tree half some refl x y off))
      | inl (a, e, h) ↦ elim (place_on (y +ℤ pos half) (half + half)) [
        | inr off ↦ absurd (live (outside_y nodes tree half some refl x y off))
        | inl (b, f, i) ↦ ((omega (arith, ints), omega (arith, ints)), (omega (arith, ints), omega (arith, ints)))
      ]
    ]

-- a tree of a low level lies in the square of a plane
pub low_fits : (nodes : List Node) (tree : Tree) → 1 ≤ tree.level → tree.level ≤ 63 → FitsPlane (cell nodes tree)
low_fits nodes tree some low x y live =
    let k = tree_holds nodes tree 63 some low x y live in
    (omega (arith, ints), omega (arith, ints), omega (arith, ints), omega (arith, ints))
