-- By which vector a tree can be another one, moved: the one between the corners of their smallest boxes.
use Rattle.std.proofs.Common.{◌≡◌, ◌≢◌, ℕ, ◌^◌, List, sym, ap₂, ◌∙◌, inl, inr, arith}
use Rattle.std.specs.Prelude.{ℤ, pos, ◌+ℤ◌, ◌-ℤ◌, ◌≤ℤ◌, neg_ℤ}
use Rattle.std.proofs.lemmas.Bool.{cases_eq}
use Rattle.std.proofs.lemmas.Int.{ints, by_lt_z}
use Rattle.ca_plane.specs.Prelude.{IsInPlane}
use Rattle.ca_quad.specs.declared.{node.Node.Node, tree.Tree.Tree, tree.WideBounds.WideBounds}
use Rattle.ca_quad.specs.Boxes as wide
use Rattle.ca_quad.specs.Prelude.{FitsPlane, HasCellOutsidePlane, shifted_cells, cell, HoldsAll}
use Rattle.ca_pattern.specs.Prelude.{IsWide, HasLive, IsNoMove, IsOnlyMove, IsBroad, IsWithinPlane}
use Rattle.ca_pattern.proofs.Searches.{search_within}

-- cells in the square of a plane are all 0, or one is live
pub dead_or_live : (p : ℤ → ℤ → ℕ) → IsWithinPlane p → (((x y : ℤ) → p x y ≡ 0) → ⊥) → HasLive p
dead_or_live p near live =
    elim (search_within p (λ _ _. 0) (2 ^ 62) (pos 0) (pos 0)) [
      | inr found ↦ found
      | inl none ↦ absurd (live (λ x y.
          elim (cases_eq (p x y) 0) [
            | inl zero ↦ zero
            | inr some ↦ absurd (some (near x y (λ in_plane.
                some (none x y (omega (arith, ints, in_plane), omega (arith, ints, in_plane), omega (arith, ints, in_plane), omega (arith, ints, in_plane))))))
          ]))
    ]

module _ (p q : ℤ → ℤ → ℕ) (dx dy : ℤ) (same : (x y : ℤ) → q x y ≡ shifted_cells p dx dy x y) where
  -- a live cell is live after the move
  pub live_after : (x y : ℤ) → p x y ≢ 0 → q (x +ℤ dx) (y +ℤ dy) ≢ 0
  live_after x y live = λ z.
      let bx : (x +ℤ dx) -ℤ dx ≡ x = omega (arith, ints) in
      let by : (y +ℤ dy) -ℤ dy ≡ y = omega (arith, ints) in
      live (sym (ap₂ p bx by) ∙ sym (same (x +ℤ dx) (y +ℤ dy)) ∙ z)

  -- and was live before it
  live_before : (x y : ℤ) → q x y ≢ 0 → p (x -ℤ dx) (y -ℤ dy) ≢ 0
  live_before x y live = λ z. live (same x y ∙ z)

  -- so the vector is that from a corner of the one smallest box to that of the other, and that between the opposite
  -- corners
  pub corners_moved : (box box2 : WideBounds) → wide.IsLeastWideBox p box → wide.IsLeastWideBox q box2
      → ((dx ≡ box2.x0 -ℤ box.x0) × (dy ≡ box2.y0 -ℤ box.y0)) × ((dx ≡ box2.x1 -ℤ box.x1) × (dy ≡ box2.y1 -ℤ box.y1))
  corners_moved box box2 least least2 =
      let there : (x y : ℤ) → p x y ≢ 0 → wide.IsInWideBox box2 (x +ℤ dx) (y +ℤ dy) = λ x y live. least2.all (x +ℤ dx) (y +ℤ dy) (live_after x y live) in
      let back : (x y : ℤ) → q x y ≢ 0 → wide.IsInWideBox box (x -ℤ dx) (y -ℤ dy) = λ x y live. least.all (x -ℤ dx) (y -ℤ dy) (live_before x y live) in
      let left = there box.x0 least.left.0 least.left.1 in
      let left2 = back box2.x0 least2.left.0 least2.left.1 in
      let top = there least.top.0 box.y0 least.top.1 in
      let top2 = back least2.top.0 box2.y0 least2.top.1 in
      let right = there box.x1 least.right.0 least.right.1 in
      let right2 = back box2.x1 least2.right.0 least2.right.1 in
      let bottom = there least.bottom.0 box.y1 least.bottom.1 in
      let bottom2 = back least2.bottom.0 box2.y1 least2.bottom.1 in
      ((omega (arith, ints, left.0, left2.0), omega (arith, ints, top.2, top2.2)), (omega (arith, ints, right.1, right2.1), omega (arith, ints, bottom.3, bottom2.3)))

  -- and no cell leaves the square of a plane, where the moved ones are in it
  pub not_leaves : IsWithinPlane q → HasCellOutsidePlane (shifted_cells p dx dy) → ⊥
  not_leaves near (x, y, live, out) = live (sym (same x y) ∙ near x y out)

-- where one vector alone may move the other tree's cells onto the tree's, and doesn't, none does
pub no_move : (nodes : List Node) (tree other : Tree) (dx dy : ℤ) (now moved : ℤ → ℤ → ℕ) → IsOnlyMove nodes tree other (dx, dy)
    → ((x y : ℤ) → now x y ≡ cell nodes tree x y) → ((x y : ℤ) → moved x y ≡ shifted_cells (cell nodes other) dx dy x y)
    → (x y : ℤ) → now x y ≢ moved x y → IsNoMove nodes tree other
no_move nodes tree other dx dy now moved only stays shows x y differs = λ a b is.
    let at = only a b is in
    differs (stays x y ∙ is x y ∙ ap₂ (λ u v. shifted_cells (cell nodes other) u v x y) at.0 at.1 ∙ sym (shows x y))

-- cells that fit into the square of a plane are 0 elsewhere
pub fits_near : (p : ℤ → ℤ → ℕ) → FitsPlane p → IsWithinPlane p
fits_near p fits x y out =
    elim (cases_eq (p x y) 0) [
      | inl none ↦ none
      | inr live ↦ absurd (out (fits x y live))
    ]

-- what isn't out of order is in order
pub not_above : (a b : ℤ) → ((a ≤ℤ b → ⊥) → ⊥) → a ≤ℤ b
not_above a b h = by_lt_z b a (λ less. absurd (h (λ le. omega (arith, ints, less, le)))) (λ other. omega (arith, ints, other))

-- or in the square of a plane
corner_near : (q : ℤ → ℤ → ℕ) (box : WideBounds) → wide.IsLeastWideBox q box → IsWithinPlane q
    → IsInPlane (record { y = box.y0; x = box.x0 })
corner_near q box least near = (
  not_above _ _ (λ out. least.left.1 (near box.x0 least.left.0 (λ a. out a.0))),
  not_above _ _ (λ out. least.left.1 (near box.x0 least.left.0 (λ a. out a.1))),
  not_above _ _ (λ out. least.top.1 (near least.top.0 box.y0 (λ a. out a.2))),
  not_above _ _ (λ out. least.top.1 (near least.top.0 box.y0 (λ a. out a.3))),
)

-- or of the square of a plane
pub corner_wide : (q : ℤ → ℤ → ℕ) (box : WideBounds) → wide.IsLeastWideBox q box → IsWithinPlane q → IsWide box.x0 × IsWide box.y0
corner_wide q box least near =
    let here = corner_near q box least near in
    ((omega (arith, ints, here), omega (arith, ints, here)), (omega (arith, ints, here), omega (arith, ints, here)))

-- or at most half as far as the square of a plane goes
pub corner_broad : (p : ℤ → ℤ → ℕ) (box : WideBounds) → wide.IsLeastWideBox p box → HoldsAll 62 p → IsBroad box.x0 × IsBroad box.y0
corner_broad p box least within =
    let left = within box.x0 least.left.0 least.left.1 in
    let top = within least.top.0 box.y0 least.top.1 in
    ((omega (arith, ints, left), omega (arith, ints, left)), (omega (arith, ints, top), omega (arith, ints, top)))

-- the opposite corner lies there too
pub far_corner_wide : (q : ℤ → ℤ → ℕ) (box : WideBounds) → wide.IsLeastWideBox q box → IsWithinPlane q → IsWide box.x1 × IsWide box.y1
far_corner_wide q box least near =
    let left : neg_ℤ (pos (2 ^ 62)) ≤ℤ box.x1 = not_above _ _ (λ out. least.right.1 (near box.x1 least.right.0 (λ a. out a.0))) in
    let right : box.x1 ≤ℤ pos (2 ^ 62) = not_above _ _ (λ out. least.right.1 (near box.x1 least.right.0 (λ a. out a.1))) in
    let top : neg_ℤ (pos (2 ^ 62)) ≤ℤ box.y1 = not_above _ _ (λ out. least.bottom.1 (near least.bottom.0 box.y1 (λ a. out a.2))) in
    let bottom : box.y1 ≤ℤ pos (2 ^ 62) = not_above _ _ (λ out. least.bottom.1 (near least.bottom.0 box.y1 (λ a. out a.3))) in
    ((left, right), (top, bottom))
