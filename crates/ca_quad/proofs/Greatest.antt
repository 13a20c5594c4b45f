-- The greatest state of four squares that lie together is the greatest of theirs.
use Rattle.std.proofs.Common.{◌≡◌, ◌≢◌, ℕ, ◌+◌, ◌-◌, ◌<◌, ◌≤◌, ◌^◌, ◌⊎◌, inl, inr, max, ◌==◌, ◌&&◌, List, nat_lt, ℤ, pos, negsuc, ◌+ℤ◌, ◌-ℤ◌, refl, sym, ◌∙◌, arith}
use Rattle.std.proofs.lemmas.Bool.{cases_Bool}
use Rattle.std.proofs.lemmas.Int.{ints}
use Rattle.ca_quad.specs.declared.{node.Node.Node, tree.Tree.Tree}
use Rattle.ca_quad.specs.Prelude.{one_cell, joined_cells, cell_of, IsTree, cell}
use Rattle.ca_plane.specs.Prelude.{from_corner}
use Rattle.ca_quad.specs.inner.Greatest.{IsGreatest, IsGreatestOf}
use Rattle.ca_quad.specs.inner.Measure.{EndsWithin, IsJoined}
use Rattle.ca_quad.proofs.Cells.{at_nw, at_ne, at_sw, at_se}
use Rattle.ca_plane.proofs.Numbers.{below_or_not}

-- a live cell lies within the side
pub live_within : (side : ℕ) (cells : ℕ → ℕ → ℕ) → EndsWithin side cells → (x y : ℕ) → cells x y ≢ 0 → (x < side) × (y < side)
live_within side cells ends x y live = (
  elim (below_or_not x side) [ inl h ↦ h | inr h ↦ absurd (live (ends x y (inl h))) ],
  elim (below_or_not y side) [ inl h ↦ h | inr h ↦ absurd (live (ends x y (inr h))) ],
)

-- the greatest of four is one of them
one_of_max : (a b c d m : ℕ) → m ≡ max (max a b) (max c d) → (m ≡ a) ⊎ ((m ≡ b) ⊎ ((m ≡ c) ⊎ (m ≡ d)))
one_of_max a b c d m e =
    elim (below_or_not a m) [
      | inr h ↦ inl (omega arith)
      | inl h ↦ elim (below_or_not b m) [
        | inr i ↦ inr (inl (omega arith))
        | inl i ↦ elim (below_or_not c m) [ inr j ↦ inr (inr (inl (omega arith))) | inl j ↦ inr (inr (inr (omega arith))) ]
      ]
    ]

module _ (side : ℕ) (nw ne sw se : ℕ → ℕ → ℕ) (a b c d : ℕ) (is_nw : IsGreatest nw a) (is_ne : IsGreatest ne b) (is_sw : IsGreatest sw c) (is_se : IsGreatest se d) where
  no_more : (m : ℕ) → m ≡ max (max a b) (max c d) → (x y : ℕ) → joined_cells side nw ne sw se x y ≤ m
  no_more m e x y =
      elim (cases_Bool (nat_lt y side)) [
        | inl f ↦ elim (cases_Bool (nat_lt x side)) [ inl g ↦ rw (f, g) (omega (arith, e, is_nw.most x y)) | inr g ↦ rw (f, g) (omega (arith, e, is_ne.most (x - side) y)) ]
        | inr f ↦ elim (cases_Bool (nat_lt x side)) [
          | inl g ↦ rw (f, g) (omega (arith, e, is_sw.most x (y - side)))
          | inr g ↦ rw (f, g) (omega (arith, e, is_se.most (x - side) (y - side)))
        ]
      ]

  module _ (end_nw : EndsWithin side nw) (end_ne : EndsWithin side ne) (end_sw : EndsWithin side sw) where
    some_has : (m : ℕ) → m ≢ 0 → (m ≡ a) ⊎ ((m ≡ b) ⊎ ((m ≡ c) ⊎ (m ≡ d))) → (x : ℕ) × (y : ℕ) × (joined_cells side nw ne sw se x y ≡ m)
    some_has m live (inl e) =
        let (x, y, is) = is_nw.shown (λ z. live (e ∙ z)) in
        let (i, j) = live_within side nw end_nw x y (λ z. live (e ∙ (sym is ∙ z))) in
        (x, y, at_nw side nw ne sw se x y i j ∙ (is ∙ sym e))
    some_has m live (inr (inl e)) =
        let (x, y, is) = is_ne.shown (λ z. live (e ∙ z)) in
        let (i, j) = live_within side ne end_ne x y (λ z. live (e ∙ (sym is ∙ z))) in
        (side + x, y, at_ne side nw ne sw se x y j ∙ (is ∙ sym e))
    some_has m live (inr (inr (inl e))) =
        let (x, y, is) = is_sw.shown (λ z. live (e ∙ z)) in
        let (i, j) = live_within side sw end_sw x y (λ z. live (e ∙ (sym is ∙ z))) in
        (x, side + y, at_sw side nw ne sw se x y i ∙ (is ∙ sym e))
    some_has m live (inr (inr (inr e))) =
        let (x, y, is) = is_se.shown (λ z. live (e ∙ z)) in
        (side + x, side + y, at_se side nw ne sw se x y ∙ (is ∙ sym e))

    -- of the four together
    pub greatest_together : (m : ℕ) → m ≡ max (max a b) (max c d) → IsGreatest (joined_cells side nw ne sw se) m
    greatest_together m e = record { most = no_more m e; shown = λ live. some_has m live (one_of_max a b c d m e) }

-- one cell's greatest state is its own
pub greatest_dot : (state : ℕ) → IsGreatest (one_cell state) state
greatest_dot state = record {
  most = λ x y. elim (cases_Bool ((x == 0) && (y == 0))) [ inl f ↦ rw f (omega arith) | inr f ↦ rw f (omega arith) ];
  shown = λ live. (0, 0, refl);
}

-- of four squares that lie together, it is the greatest of theirs
pub greatest_joined : (side a b c d m : ℕ) → m ≡ max (max a b) (max c d) → IsJoined (λ cells n s. IsGreatest cells s) side a b c d m
greatest_joined side a b c d m e nw ne sw se i j k l p q r s = greatest_together side nw ne sw se a b c d p q r s i j k m e

-- counted from the corner no state is greater
from_corner_most : (cells : ℕ → ℕ → ℕ) (s : ℕ) → IsGreatest cells s → (u v : ℤ) → from_corner cells u v ≤ s
from_corner_most cells s is (pos a) (pos b) = is.most a b
from_corner_most cells s is (pos a) (negsuc b) = omega arith
from_corner_most cells s is (negsuc a) (pos b) = omega arith
from_corner_most cells s is (negsuc a) (negsuc b) = omega arith

-- the greatest state of a tree is that of its root
module _ (nodes : List Node) (tree : Tree) (is : IsTree nodes tree) where
  pub tree_most : (s : ℕ) → IsGreatestOf nodes tree.root s → (x y : ℤ) → cell nodes tree x y ≤ s
  tree_most s h x y =
      from_corner_most (cell_of nodes tree.level tree.root) s (h tree.level is) (x +ℤ pos (2 ^ (tree.level - 1))) (y +ℤ pos (2 ^ (tree.level - 1)))

  back : (n half : ℕ) → pos n -ℤ pos half +ℤ pos half ≡ pos n
  back n half = omega (arith, ints)

  pub tree_shown : (s : ℕ) → IsGreatestOf nodes tree.root s → s ≢ 0 → (x : ℤ) × (y : ℤ) × (cell nodes tree x y ≡ s)
  tree_shown s h live =
      let half = 2 ^ (tree.level - 1) in
      let (a, b, here) = (h tree.level is).shown live in
      (pos a -ℤ pos half, pos b -ℤ pos half, rw (back a half, back b half) here)
