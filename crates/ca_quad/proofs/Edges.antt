-- Outside a tree every cell is 0.
use Rattle.std.proofs.Common.{◌≡◌, ℕ, suc, ◌+◌, ◌-◌, ◌≤◌, ◌^◌, ◌⊎◌, inl, inr, ℤ, pos, negsuc, ◌+ℤ◌, ◌<ℤ◌, ◌≤ℤ◌, Result, Ok, Err, IfOk, List, refl, sym, ap, subst, ◌∙◌, arith}
use Rattle.std.proofs.lemmas.Int.{ints}
use Rattle.std.proofs.Math.Nat.{two-pow-succ}
use Rattle.ca_quad.specs.declared.{node.Node.Node, tree.Tree.Tree}
use Rattle.ca_quad.specs.Prelude.{cell_of, ShowsSquare, IsEmpty, cell}
use Rattle.ca_plane.specs.Prelude.{from_corner}
use Rattle.ca_quad.specs.inner.Measure.{EndsWithin}
use Rattle.ca_quad.proofs.Cells.{cell_ends}

-- before a square or after it
abbrev pub IsOff : ℕ → ℤ → Type 0
IsOff side u = (u <ℤ pos 0) ⊎ (pos side ≤ℤ u)

module _ (cells : ℕ → ℕ → ℕ) (side : ℕ) (ends : EndsWithin side cells) where
  pub off_x : (u v : ℤ) → IsOff side u → from_corner cells u v ≡ 0
  off_x (pos a) (pos b) (inl h) = absurd (omega (arith, ints))
  off_x (pos a) (pos b) (inr h) = ends a b (inl (omega (arith, ints)))
  off_x (pos a) (negsuc b) h = refl
  off_x (negsuc a) (pos b) h = refl
  off_x (negsuc a) (negsuc b) h = refl

-- where x and y change places
transposed : (cells : ℕ → ℕ → ℕ) (u v : ℤ) → from_corner cells u v ≡ from_corner (λ x y. cells y x) v u
transposed cells (pos a) (pos b) = refl
transposed cells (pos a) (negsuc b) = refl
transposed cells (negsuc a) (pos b) = refl
transposed cells (negsuc a) (negsuc b) = refl

pub off_y : (cells : ℕ → ℕ → ℕ) (side : ℕ) → EndsWithin side cells → (u v : ℤ) → IsOff side v → from_corner cells u v ≡ 0
off_y cells side ends u v h = transposed cells u v ∙ off_x (λ x y. cells y x) side (λ x y o. ends y x (elim o [ inl i ↦ inr i | inr i ↦ inl i ])) v u h

module _ (nodes : List Node) (tree : Tree) (half : ℕ) (some : 1 ≤ tree.level) (e : half ≡ 2 ^ (tree.level - 1)) where
  tree_ends : EndsWithin (half + half) (cell_of nodes tree.level tree.root)
  tree_ends =
      let next : suc (tree.level - 1) ≡ tree.level = omega arith in
      let side : 2 ^ tree.level ≡ half + half = ap (λ k. 2 ^ k) (sym next) ∙ (two-pow-succ (tree.level - 1) ∙ ap (λ n. n + n) (sym e)) in
      subst (λ n. EndsWithin n (cell_of nodes tree.level tree.root)) side (cell_ends nodes tree.level tree.root)

  pub outside_x : (x y : ℤ) → IsOff (half + half) (x +ℤ pos half) → cell nodes tree x y ≡ 0
  outside_x x y h =
      subst (λ n. from_corner (cell_of nodes tree.level tree.root) (x +ℤ pos n) (y +ℤ pos n) ≡ 0) e
      (off_x (cell_of nodes tree.level tree.root) (half + half) tree_ends (x +ℤ pos half) (y +ℤ pos half) h)

  pub outside_y : (x y : ℤ) → IsOff (half + half) (y +ℤ pos half) → cell nodes tree x y ≡ 0
  outside_y x y h =
      subst (λ n. from_corner (cell_of nodes tree.level tree.root) (x +ℤ pos n) (y +ℤ pos n) ≡ 0) e
      (off_y (cell_of nodes tree.level tree.root) (half + half) tree_ends (x +ℤ pos half) (y +ℤ pos half) h)

-- a square whose cells are said to be empty ones
pub shows_empty : {E : Type 0} (new : List Node) (r : Result ℕ E) (k level : ℕ) (cells : ℕ → ℕ → ℕ) → suc k ≡ level → IsEmpty cells
    → IfOk r (λ id. ShowsSquare new id (suc k) cells) → IfOk r (λ id. ShowsSquare new id level (λ x y. 0))
shows_empty new (Ok id) k level cells e empty h =
    subst (λ l. ShowsSquare new id l (λ x y. 0)) e (record { is_square = h.is_square; has_cells = λ x y. h.has_cells x y ∙ empty x y })
shows_empty new (Err e) k level cells f empty h = tt
