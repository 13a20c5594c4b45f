-- Cells that lie near the middle of the plane: in the square of a level, and so in the square of a plane.
use Rattle.std.proofs.Common.{◌≡◌, ◌≢◌, ℕ, ◌+◌, ◌-◌, ◌≤◌, ◌^◌, List, ◌∙◌, inl, inr, arith}
use Rattle.std.specs.Prelude.{ℤ, pos, neg_ℤ, ◌+ℤ◌, ◌≤ℤ◌, replicate}
use Rattle.std.proofs.lemmas.Bool.{cases_eq}
use Rattle.std.proofs.lemmas.Int.{ints}
use Rattle.ca_plane.specs.Prelude.{cells_after, IsWithin}
use Rattle.ca_quad.specs.declared.{node.Node.Node, tree.Tree.Tree}
use Rattle.ca_quad.specs.Prelude.{cell, IsTrimmed, HoldsAll}
use Rattle.ca_plane.proofs.Numbers.{below_or_not}
use Rattle.ca_macro.specs.Prelude.{AreInRange}
use Rattle.ca_plane.proofs.After.{after_dead}
use Rattle.ca_pattern.specs.Prelude.{IsWithinPlane}
use Rattle.ca_pattern.proofs.Corners.{not_above}

-- cells in range lie in the square of level 61
pub range_held : (f : ℤ → ℤ → ℕ) → AreInRange f → HoldsAll 61 f
range_held f range x y live = let at = range x y live in ((at.0, at.1), (at.2, at.3))

-- what lies in the square of a low level lies in the square of a plane
pub held_near : (f : ℤ → ℤ → ℕ) (level : ℕ) → 2 ^ (level - 1) ≤ 2 ^ 62 → HoldsAll level f → IsWithinPlane f
held_near f level low held x y out = elim (cases_eq (f x y) 0) [
  | inl none ↦ none
  | inr live ↦
      let here = held x y live in
      absurd (out (omega (arith, ints, low, here), omega (arith, ints, low, here), omega (arith, ints, low, here), omega (arith, ints, low, here)))
]

-- a tree of the smallest level has no higher one than holds its cells
pub trimmed_low : (nodes : List Node) (tree : Tree) (f : ℤ → ℤ → ℕ) (level : ℕ) → 1 ≤ level → IsTrimmed nodes tree → ((x y : ℤ) → cell nodes tree x y ≡ f x y) → HoldsAll level f → tree.level ≤ level
trimmed_low nodes tree f level some trimmed shows held = elim (below_or_not level tree.level) [
  | inl less ↦ absurd (trimmed level some less (λ x y live. held x y (λ none. live (shows x y ∙ none))))
  | inr high ↦ high
]

module _ (next : List ℕ → ℕ) (p : ℤ → ℤ → ℕ) (n : ℕ) (quiet : next (replicate 9 0) ≡ 0) where
  -- what holds where a cell that was live at first is within n of one that lives later
  pub live_near : (At : ℤ → ℤ → Type 0) → ((u v : ℤ) → p u v ≢ 0 → At u v) → (x y : ℤ) → cells_after next p n x y ≢ 0 → (a b : ℤ) → ((u v : ℤ) → IsWithin n x y u v → At u v → a ≤ℤ b) → a ≤ℤ b
  live_near At at x y live a b tells =
      not_above a b (λ out. live (after_dead next p quiet n x y (λ u v within.
      elim (cases_eq (p u v) 0) [
        | inl none ↦ none
        | inr alive ↦ absurd (out (tells u v within (at u v alive)))
      ])))

  -- cells in the square of one level lie few generations later in that of a higher one
  pub later_held : (level higher : ℕ) → 2 ^ (level - 1) + n ≤ 2 ^ (higher - 1) → HoldsAll level p → HoldsAll higher (cells_after next p n)
  later_held level higher few held x y live =
      let near = live_near _ held x y live in
      let west : neg_ℤ (pos (2 ^ (higher - 1))) ≤ℤ x = near _ _ (λ u v within here. omega (arith, ints, few, within, here)) in
      let east : (x +ℤ pos 1) ≤ℤ pos (2 ^ (higher - 1)) = near _ _ (λ u v within here. omega (arith, ints, few, within, here)) in
      let north : neg_ℤ (pos (2 ^ (higher - 1))) ≤ℤ y = near _ _ (λ u v within here. omega (arith, ints, few, within, here)) in
      let south : (y +ℤ pos 1) ≤ℤ pos (2 ^ (higher - 1)) = near _ _ (λ u v within here. omega (arith, ints, few, within, here)) in
      ((west, omega (arith, ints, east)), (north, omega (arith, ints, south)))
