-- Where squares and trees differ.
use Rattle.std.proofs.Common.{◌≡◌, ℕ, suc, ◌+◌, ◌-◌, ◌<◌, ◌≤◌, ◌^◌, ℤ, pos, ◌+ℤ◌, Option, List, refl, sym, subst, ◌∙◌, arith}
use Rattle.std.proofs.Math.Nat.{two-pow-succ, pow-le-pow_right}
use Rattle.ca_quad.specs.declared.{node.Node.Node, tree.Tree.Tree}
use Rattle.ca_quad.specs.Prelude.{IsOf, cell_of, cell, IsSoundStore}
use Rattle.ca_plane.specs.Prelude.{from_corner}
use Rattle.ca_quad.specs.inner.Difference.{DifferInSquare, AreEqual, TellsDifference, AreUnequal}
use Rattle.ca_quad.proofs.Cells.{same_cells}

-- what is reported of squares of a level holds of squares of any level that they have
pub at_level : (nodes : List Node) (a b k : ℕ) → IsOf nodes a k → (r : Option (ℕ × ℕ)) → TellsDifference (2 ^ k) (cell_of nodes k a) (cell_of nodes k b) r
    → (level : ℕ) → IsOf nodes a level → TellsDifference (2 ^ level) (cell_of nodes level a) (cell_of nodes level b) r
at_level nodes a b k h r told level i =
    subst (λ l. TellsDifference (2 ^ l) (cell_of nodes l a) (cell_of nodes l b) r) (sym h.is_level ∙ i.is_level) told

module _ (nodes : List Node) (k a b p q left top : ℕ) (w : AreUnequal nodes k a b p q left top) where
  -- where quarters differ, so do the squares
  pub differ_within : (x y : ℕ) → DifferInSquare (2 ^ k) (cell_of nodes k p) (cell_of nodes k q) (x, y)
      → DifferInSquare (2 ^ suc k) (cell_of nodes (suc k) a) (cell_of nodes (suc k) b) (left + x, top + y)
  differ_within x y d = record {
    x_in = omega (arith, two-pow-succ k, d.x_in, w.x_low);
    y_in = omega (arith, two-pow-succ k, d.y_in, w.y_low);
    differ = λ e. d.differ (w.first.has_cells x y d.x_in d.y_in ∙ (e ∙ sym (w.second.has_cells x y d.x_in d.y_in)));
  }

  -- unequal quarters differ somewhere
  pub differ_some : IsSoundStore nodes → AreEqual (cell_of nodes k p) (cell_of nodes k q) → ⊥
  differ_some sound same = w.unequal (same_cells nodes sound k p q w.first.is_square w.second.is_square same)

-- places of squares are small
pub place_fits : (k left x : ℕ) → k ≤ 124 → left ≤ 2 ^ k → x < 2 ^ k → left + x < 2 ^ 125
place_fits k left x h i j =
    let l : 2 ^ k ≤ 2 ^ 124 = pow-le-pow_right {n = 2} (omega arith) {i = k} {j = 124} (omega arith) in
    omega arith

-- the cell of a tree at a place, by its way from the edge
pub cell_at : (nodes : List Node) (tree : Tree) (half : ℕ) → half ≡ 2 ^ (tree.level - 1) → (u v : ℤ) (x y : ℕ) → u +ℤ pos half ≡ pos x → v +ℤ pos half ≡ pos y
    → cell nodes tree u v ≡ cell_of nodes tree.level tree.root x y
cell_at nodes tree half e u v x y f g =
    subst (λ n. from_corner (cell_of nodes tree.level tree.root) (u +ℤ pos n) (v +ℤ pos n) ≡ cell_of nodes tree.level tree.root x y) e (rw (f, g) refl)

-- where the roots' cells differ, so do the trees
module _ (nodes : List Node) (a b : Tree) (same : a.level ≡ b.level) (half : ℕ) (e : half ≡ 2 ^ (a.level - 1)) (u v : ℤ) (x y : ℕ) (f : u +ℤ pos half ≡ pos x) (g : v +ℤ pos half ≡ pos y)
    (d : DifferInSquare (2 ^ a.level) (cell_of nodes a.level a.root) (cell_of nodes a.level b.root) (x, y)) where
  pub trees_differ : cell nodes a u v ≡ cell nodes b u v → ⊥
  trees_differ h =
      d.differ
      (sym (cell_at nodes a half e u v x y f g)
      ∙ (h ∙ subst (λ l. cell nodes b u v ≡ cell_of nodes l b.root x y) (sym same) (cell_at nodes b half (subst (λ l. half ≡ 2 ^ (l - 1)) same e) u v x y f g)))

pub way_fits : (k x : ℕ) → k ≤ 125 → x < 2 ^ k → x < 2 ^ 125
way_fits k x h i =
    let l : 2 ^ k ≤ 2 ^ 125 = pow-le-pow_right {n = 2} (omega arith) {i = k} {j = 125} (omega arith) in
    omega arith
