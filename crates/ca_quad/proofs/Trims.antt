-- Where a tree has no ring of empty cells, no lower level holds all its live cells.
use Rattle.std.proofs.Common.{◌≡◌, neg_ℤ, ℕ, suc, ◌+◌, ◌-◌, ◌<◌, ◌≤◌, ◌^◌, ◌⊎◌, inl, inr, ℤ, pos, ◌+ℤ◌, ◌-ℤ◌, ◌<ℤ◌, ◌≤ℤ◌, Result, Ok, Err, IfOk, List, refl, sym, ap, ◌∙◌, arith}
use Rattle.std.proofs.lemmas.Int.{ints}
use Rattle.std.proofs.Math.Nat.{two-pow-succ, pow-le-pow_right}
use Rattle.ca_quad.specs.declared.{node.Node.Node, tree.Tree.Tree}
use Rattle.ca_quad.specs.Prelude.{cell_of, IsSoundStore, Grows, IsTree, cell, HoldsAll, IsTrimmed}
use Rattle.ca_plane.specs.Prelude.{from_corner}
use Rattle.ca_quad.specs.inner.Ring.{IsOut, IsRinged, HasNoRing}
use Rattle.ca_plane.proofs.Numbers.{below_or_not}
use Rattle.ca_quad.proofs.Cells.{cells_stay}
use Rattle.ca_quad.proofs.Differ.{cell_at}

-- an old tree shows the same plane
pub trees_stay : (old new : List Node) → IsSoundStore old → Grows old new → (tree : Tree) → IsTree old tree → (x y : ℤ) → cell new tree x y ≡ cell old tree x y
trees_stay old new sound grows tree h x y =
    ap (λ f. from_corner f (x +ℤ pos (2 ^ (tree.level - 1))) (y +ℤ pos (2 ^ (tree.level - 1)))) (cells_stay old new sound grows tree.level tree.root h)

pub trimmed_as : (old new : List Node) (tree : Tree) → ((x y : ℤ) → cell new tree x y ≡ cell old tree x y) → IsTrimmed old tree → IsTrimmed new tree
trimmed_as old new tree same trimmed level some low holds =
    trimmed level some low (λ x y live. holds x y (λ z. live (sym (same x y) ∙ z)))

pub cells_as : {E : Type 0} (new : List Node) (r : Result Tree E) (p q : ℤ → ℤ → ℕ) → ((x y : ℤ) → p x y ≡ q x y)
    → IfOk r (λ t. (x y : ℤ) → cell new t x y ≡ p x y) → IfOk r (λ t. (x y : ℤ) → cell new t x y ≡ q x y)
cells_as new (Ok t) p q same h = λ x y. h x y ∙ same x y
cells_as new (Err e) p q same h = tt

-- a way within half the side of a lower level isn't out of the middle
not_out : (s n x : ℕ) (u : ℤ) → n ≤ s → u +ℤ pos (s + s) ≡ pos x → neg_ℤ (pos n) ≤ℤ u → u <ℤ pos n → IsOut s x → ⊥
not_out s n x u h e i j (inl o) = omega (arith, ints)
not_out s n x u h e i j (inr o) = omega (arith, ints)

module _ (nodes : List Node) (tree : Tree) (k : ℕ) (e : suc k ≡ tree.level) (some : 1 ≤ k) (level : ℕ) (least : 1 ≤ level) (low : level < tree.level) (holds : HoldsAll level (cell nodes tree)) where
  s : ℕ
  s = 2 ^ (k - 1)

  big : ℕ → ℕ → ℕ
  big = cell_of nodes tree.level tree.root

  half : s + s ≡ 2 ^ (tree.level - 1)
  unfolding s
  half =
      let f : suc (k - 1) ≡ tree.level - 1 = omega arith in
      sym (ap (λ n. 2 ^ n) (sym f) ∙ two-pow-succ (k - 1))

  narrow : 2 ^ (level - 1) ≤ s
  unfolding s
  narrow = pow-le-pow_right {n = 2} (omega arith) {i = level - 1} {j = k - 1} (omega arith)

  quiet : (x y : ℕ) → IsOut s x ⊎ IsOut s y → big x y ≡ 0
  unfolding big
  quiet x y out =
      elim (below_or_not (cell_of nodes tree.level tree.root x y) 1) [
        | inl z ↦ omega arith
        | inr live ↦
            let u : ℤ = pos x -ℤ pos (s + s) in
            let v : ℤ = pos y -ℤ pos (s + s) in
            let f : u +ℤ pos (s + s) ≡ pos x = omega (arith, ints) in
            let g : v +ℤ pos (s + s) ≡ pos y = omega (arith, ints) in
            let at = cell_at nodes tree (s + s) half u v x y f g in
            let within = holds u v (λ z. omega (arith, sym at ∙ z)) in
            absurd (elim out [
              | inl o ↦ not_out s (2 ^ (level - 1)) x u narrow f within.0.0 within.0.1 o
              | inr o ↦ not_out s (2 ^ (level - 1)) y v narrow g within.1.0 within.1.1 o
            ])
      ]

  pub has_ring : IsRinged (2 ^ (k - 1)) (λ x y. cell_of nodes tree.level tree.root (2 ^ (k - 1) + x) (2 ^ (k - 1) + y)) (cell_of nodes tree.level tree.root)
  unfolding s big
  has_ring = record { inside = λ x y i j. refl; ring = quiet }

pub no_ring : (nodes : List Node) (tree : Tree) (k : ℕ) → suc k ≡ tree.level → 1 ≤ k → HasNoRing k (cell_of nodes tree.level tree.root) → IsTrimmed nodes tree
no_ring nodes tree k e some no_cells level least low holds =
    no_cells (λ x y. cell_of nodes tree.level tree.root (2 ^ (k - 1) + x) (2 ^ (k - 1) + y)) (has_ring nodes tree k e some level least low holds)
