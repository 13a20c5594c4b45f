-- The smallest box round live cells is in range just where they are.
use Rattle.std.proofs.Common.{◌≡◌, ℕ, ◌≤◌, ℤ, pos, neg_ℤ, ◌<ℤ◌, ◌≤ℤ◌, [], ◌∷◌, List, ◌&&◌, inl, inr, arith, refl, sym, subst, ◌∙◌}
use Rattle.std.specs.Ordering.{int_eq}
use Rattle.std.proofs.lemmas.Bool.{cases_Bool}
use Rattle.std.proofs.lemmas.List.Elements.{All-head, All-tail}
use Rattle.ca_plane.specs.Prelude.{Picture, IsPicture, cell, range, IsInRange}
use Rattle.ca_plane.proofs.Pictures.{place-from_true, cell-first, point-same}
use Rattle.std.specs.List.{AllByRecursion}
use Rattle.std.proofs.lemmas.Int.{ints}
use Rattle.ca_quad.specs.declared.{tree.WideBounds.WideBounds, node.Node.Node, tree.Tree.Tree}
use Rattle.ca_quad.specs.Prelude.{IsLeastWideBox}
use Rattle.ca_quad.specs.Trees as trees
use Rattle.ca_quad.proofs.Reach.{tree_holds}
use Rattle.ca_macro.specs.Prelude.{AreInRange}

-- a box is in range
abbrev pub IsBoxInRange : WideBounds → Type 0
IsBoxInRange box = (neg_ℤ (pos range) ≤ℤ box.x0) × (box.x1 <ℤ pos range) × (neg_ℤ (pos range) ≤ℤ box.y0) × (box.y1 <ℤ pos range)

pub box_of_range : (cells : ℤ → ℤ → ℕ) (box : WideBounds) → IsLeastWideBox cells box → AreInRange cells → IsBoxInRange box
box_of_range cells box least h =
    let l = h box.x0 least.left.0 least.left.1 in
    let r = h box.x1 least.right.0 least.right.1 in
    let t = h least.top.0 box.y0 least.top.1 in
    let b = h least.bottom.0 box.y1 least.bottom.1 in
    (l.0, r.1, t.2, b.3)

pub range_of_box : (cells : ℤ → ℤ → ℕ) (box : WideBounds) → IsLeastWideBox cells box → IsBoxInRange box → AreInRange cells
range_of_box cells box least h x y live =
    let i = least.all x y live in
    (omega (arith, ints), omega (arith, ints), omega (arith, ints), omega (arith, ints))

-- what is in range at each live cell is at each entry of a picture
pub entries_in_range : (p : Picture) → IsPicture p → AreInRange (cell p) → AllByRecursion (λ e. IsInRange e.0) p
entries_in_range [] states h = tt
entries_in_range (e ∷ es) states h =
    let low = (All-head (λ e. (1 ≤ e.1) × (e.1 ≤ 255)) e es states).0 in
    let first : IsInRange e.0 = h e.0.x e.0.y (λ z. let same = cell-first e es in omega arith) in
    (first, entries_in_range es (All-tail (λ e. (1 ≤ e.1) × (e.1 ≤ 255)) e es states) (later first))
  where
    later : IsInRange e.0 → AreInRange (cell es)
    later first x y live =
        elim (cases_Bool (int_eq y e.0.y && int_eq x e.0.x)) [
          | inl t ↦ let same = place-from_true x y e.0 t in subst IsInRange (sym (point-same (record { y = y; x = x }) e.0 same.0 same.1)) first
          | inr t ↦ h x y (λ z. live (rw t at z))
        ]

pub cells_in_range : (p : Picture) → AllByRecursion (λ e. IsInRange e.0) p → AreInRange (cell p)
cells_in_range [] h x y live = absurd (live refl)
cells_in_range (e ∷ es) h x y live =
    elim (cases_Bool (int_eq y e.0.y && int_eq x e.0.x)) [
      | inl t ↦ let same = place-from_true x y e.0 t in subst IsInRange (sym (point-same (record { y = y; x = x }) e.0 same.0 same.1)) h.0
      | inr t ↦ cells_in_range es h.1 x y (λ z. live (rw t z))
    ]

-- the same of cells that are those of a picture
pub range_as : (f g : ℤ → ℤ → ℕ) → ((x y : ℤ) → f x y ≡ g x y) → AreInRange f → AreInRange g
range_as f g same h x y live = h x y (λ z. live (sym (same x y) ∙ z))

-- a tree of level 61 at most reaches no further than the range
pub low_in_range : (nodes : List Node) (tree : Tree) → 1 ≤ tree.level → tree.level ≤ 61 → AreInRange (trees.cell nodes tree)
low_in_range nodes tree some low x y live = let held = tree_holds nodes tree 61 some low x y live in (held.0.0, held.0.1, held.1.0, held.1.1)
