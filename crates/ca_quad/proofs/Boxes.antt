-- The box of a tree is that of its root, moved to the middle.
use Rattle.std.proofs.Common.{◌≡◌, ◌≢◌, ℕ, suc, ◌+◌, ◌-◌, ◌≤◌, ◌^◌, ℤ, pos, negsuc, ◌+ℤ◌, ◌-ℤ◌, ◌≤ℤ◌, List, refl, sym, ap, ◌∙◌, arith}
use Rattle.std.proofs.lemmas.Int.{ints}
use Rattle.std.proofs.Math.Nat.{two-pow-succ}
use Rattle.ca_quad.specs.declared.{node.Node.Node, tree.Tree.Tree, tree.WideBounds.WideBounds, store.extent.Extent.Extent}
use Rattle.ca_quad.specs.Prelude.{cell_of, IsEmpty, cell, IsLeastWideBox}
use Rattle.ca_plane.specs.Prelude.{from_corner}
use Rattle.ca_quad.specs.inner.Extent.{FitsSide, IsExtent}

-- a box that is counted from the corner holds the place
abbrev HoldsFrom : Extent → ℤ → ℤ → Type 0
HoldsFrom box u v = (pos box.left ≤ℤ u) × (u ≤ℤ pos box.right) × (pos box.top ≤ℤ v) × (v ≤ℤ pos box.bottom)

holds_from : (cells : ℕ → ℕ → ℕ) (columns rows : ℕ) (box : Extent) → IsExtent cells columns rows box → (u v : ℤ) → from_corner cells u v ≢ 0 → HoldsFrom box u v
holds_from cells columns rows box h (pos a) (pos b) i =
    let k = h.all a b i in
    (omega (arith, ints), omega (arith, ints), omega (arith, ints), omega (arith, ints))
holds_from cells columns rows box h (pos a) (negsuc b) i = absurd (i refl)
holds_from cells columns rows box h (negsuc a) (pos b) i = absurd (i refl)
holds_from cells columns rows box h (negsuc a) (negsuc b) i = absurd (i refl)

pub dead_from : (cells : ℕ → ℕ → ℕ) → IsEmpty cells → (u v : ℤ) → from_corner cells u v ≡ 0
dead_from cells h (pos a) (pos b) = h a b
dead_from cells h (pos a) (negsuc b) = refl
dead_from cells h (negsuc a) (pos b) = refl
dead_from cells h (negsuc a) (negsuc b) = refl

module _ (nodes : List Node) (tree : Tree) where
  cells : ℕ → ℕ → ℕ
  cells = cell_of nodes tree.level tree.root

  module _ (half : ℕ) (e : half ≡ 2 ^ (tree.level - 1)) where
    -- a cell's state, at its place from the middle
    pub cell_at : (x y : ℤ) → cell nodes tree x y ≡ from_corner (cell_of nodes tree.level tree.root) (x +ℤ pos half) (y +ℤ pos half)
    cell_at x y = ap (λ n. from_corner (cell_of nodes tree.level tree.root) (x +ℤ pos n) (y +ℤ pos n)) (sym e)

    pub box_within : (some : 1 ≤ tree.level) (box : Extent) → IsExtent (cell_of nodes tree.level tree.root) (2 ^ tree.level) (2 ^ tree.level) box → FitsSide (half + half) box
    box_within some box h =
        let next : suc (tree.level - 1) ≡ tree.level = omega arith in
        let side : 2 ^ tree.level ≡ half + half = ap (λ k. 2 ^ k) (sym next) ∙ (two-pow-succ (tree.level - 1) ∙ ap (λ n. n + n) (sym e)) in
        let l = h.all box.left h.left.0 h.left.1 in
        let t = h.all h.top.0 box.top h.top.1 in
        (omega (arith, side, h.is_right), omega (arith, side, h.is_bottom), omega (arith, side, h.is_right), omega (arith, side, h.is_bottom))

    at_place : (a b : ℕ) (x y : ℤ) → x ≡ pos a -ℤ pos half → y ≡ pos b -ℤ pos half → cell nodes tree x y ≡ cell_of nodes tree.level tree.root a b
    at_place a b x y f g =
        let h : x +ℤ pos half ≡ pos a = omega (arith, ints) in
        let i : y +ℤ pos half ≡ pos b = omega (arith, ints) in
        cell_at x y ∙ rw (h, i) refl

    pub tree_box : (columns rows : ℕ) (box : Extent) (wide : WideBounds) → IsExtent (cell_of nodes tree.level tree.root) columns rows box
        → wide.x0 ≡ pos box.left -ℤ pos half → wide.y0 ≡ pos box.top -ℤ pos half → wide.x1 ≡ pos box.right -ℤ pos half → wide.y1 ≡ pos box.bottom -ℤ pos half
        → IsLeastWideBox (cell nodes tree) wide
    tree_box columns rows box wide h x0 y0 x1 y1 =
        let there : (a b : ℕ) (x y : ℤ) → x ≡ pos a -ℤ pos half → y ≡ pos b -ℤ pos half → cell_of nodes tree.level tree.root a b ≢ 0 → cell nodes tree x y ≢ 0
        = λ a b x y f g i j. i (sym (at_place a b x y f g) ∙ j) in
        record {
          all = λ x y i.
              let k = holds_from (cell_of nodes tree.level tree.root) columns rows box h (x +ℤ pos half) (y +ℤ pos half) (λ j. i (cell_at x y ∙ j)) in
              (omega (arith, ints), omega (arith, ints), omega (arith, ints), omega (arith, ints));
          left = (pos h.left.0 -ℤ pos half, there box.left h.left.0 wide.x0 (pos h.left.0 -ℤ pos half) x0 refl h.left.1);
          right = (pos h.right.0 -ℤ pos half, there box.right h.right.0 wide.x1 (pos h.right.0 -ℤ pos half) x1 refl h.right.1);
          top = (pos h.top.0 -ℤ pos half, there h.top.0 box.top (pos h.top.0 -ℤ pos half) wide.y0 refl y0 h.top.1);
          bottom = (pos h.bottom.0 -ℤ pos half, there h.bottom.0 box.bottom (pos h.bottom.0 -ℤ pos half) wide.y1 refl y1 h.bottom.1);
        }
