-- Planes after some generations: where they are live, what states they have, and what is reported and written of them.
use Rattle.std.proofs.Common.{◌≡◌, ℕ, zero, suc, ◌<◌, ◌≤◌, ◌^◌, List, [], ◌∷◌, length, refl, sym, ap, ◌∙◌, inl, inr, arith, true, false, Bool, ◌&&◌}
use Rattle.std.specs.Prelude.{ℤ, ◌⊎◌, replicate, if◌then◌else◌}
use Rattle.std.specs.List.{All}
use Rattle.std.specs.Ordering.{int_eq}
use Rattle.std.proofs.lemmas.Bool.{cases_eq, and_from}
use Rattle.std.proofs.lemmas.Bool.Decides.{Decides-int_eq}
use Rattle.std.proofs.lemmas.Int.{ints}
use Rattle.std.proofs.lemmas.List.Elements.{All-nil, All-cons, All-contains}
use Rattle.ca_plane.specs.declared.point.Point.{Point}
use Rattle.ca_plane.specs.Prelude.{Picture, around, cells_after, AreLivePlaces, HasPopulation}
use Rattle.ca_plane.specs.Plane as plane
use Rattle.ca_plane.proofs.Pictures.{place-from_true}
use Rattle.ca_quad.specs.declared.{node.Node.Node, tree.Tree.Tree, tree.WideBounds.WideBounds}
use Rattle.ca_quad.specs.Prelude.{IsLeastWideBox, IsTrimmed, HoldsAll, IsSoundStore}
use Rattle.ca_quad.specs.Trees as trees
use Rattle.ca_quad.proofs.Reach.{low_fits}
use Rattle.ca_quad.proofs.Shifts.{some_level}
use Rattle.ca_macro.specs.Prelude.{AreInRange}
use Rattle.ca_pattern.specs.Prelude.{HasCellOutOfRange, IsLowTree}
use Rattle.ca_pattern.specs.inner.Cells.{IsBoxOutOfRange}
use Rattle.ca_pattern.specs.inner.Summed.{AreNearBounds}
use Rattle.ca_pattern.proofs.FilesRead.{All-each}
use Rattle.ca_pattern.proofs.CellsNearMiddle.{range_held, later_held, trimmed_low}

-- ---- where they are live

module _ (next : List ℕ → ℕ) (p : ℤ → ℤ → ℕ) (n : ℕ) (quiet : next (replicate 9 0) ≡ 0) (range : AreInRange p) (few : n ≤ 2 ^ 60) where
  -- few generations after cells in range the live ones lie in a square of 2^62 cells a side
  pub later_holds : HoldsAll 62 (cells_after next p n)
  later_holds = later_held next p n quiet 61 62 (omega (arith, few)) (range_held p range)

  -- so a tree of the smallest level that shows them is a low one
  pub later_is_low : (nodes : List Node) (tree : Tree) → IsTrimmed nodes tree → ((x y : ℤ) → trees.cell nodes tree x y ≡ cells_after next p n x y) → tree.level ≤ 62
  later_is_low nodes tree trimmed shows = trimmed_low nodes tree (cells_after next p n) 62 (omega arith) trimmed shows later_holds

-- ---- what states they have

-- states below a number stay below it, where nine of them lead to such a one
pub later_small : (next : List ℕ → ℕ) (p : ℤ → ℤ → ℕ) (k : ℕ) → ((nine : List ℕ) → length nine ≡ 9 → All (λ s. s < k) nine → next nine < k)
    → ((x y : ℤ) → p x y < k) → (n : ℕ) (x y : ℤ) → cells_after next p n x y < k
later_small next p k closed small zero x y = small x y
later_small next p k closed small (suc n) x y =
    let before : (a b : ℤ) → cells_after next p n a b < k = later_small next p k closed small n in
    closed (around (cells_after next p n) x y) refl
    (All-each (λ s. s < k) (around (cells_after next p n) x y) (before _ _, (before _ _, (before _ _, (before _ _, (before _ _, (before _ _, (before _ _, (before _ _, (before _ _, tt))))))))))

-- ---- boxes

module _ (cells : ℤ → ℤ → ℕ) where
  pub box_out_of_range : (box : WideBounds) → IsLeastWideBox cells box → IsBoxOutOfRange box → HasCellOutOfRange cells
  box_out_of_range box least (inl h) = (box.x0, least.left.0, least.left.1, λ i. absurd (omega (arith, ints, h, i.0)))
  box_out_of_range box least (inr (inl h)) = (box.x1, least.right.0, least.right.1, λ i. absurd (omega (arith, ints, h, i.1)))
  box_out_of_range box least (inr (inr (inl h))) = (least.top.0, box.y0, least.top.1, λ i. absurd (omega (arith, ints, h, i.2)))
  box_out_of_range box least (inr (inr (inr h))) = (least.bottom.0, box.y1, least.bottom.1, λ i. absurd (omega (arith, ints, h, i.3)))

module _ (f g : ℤ → ℤ → ℕ) (same : (x y : ℤ) → f x y ≡ g x y) where
  pub range_shown : AreInRange f → AreInRange g
  range_shown range x y live = range x y (λ dead. live (sym (same x y) ∙ dead))

-- ---- pictures of cells

module _ (f : ℤ → ℤ → ℕ) where
  -- the picture that lists these places, each with its state
  abbrev pub listed : List Point → Picture
  listed [] = []
  listed (p ∷ ps) = (p, f p.x p.y) ∷ listed ps

  -- at a place it has the state, or 0 where it doesn't list the place
  abbrev ListedOrNone : List Point → ℤ → ℤ → Type 0
  ListedOrNone ps x y = (plane.cell (listed ps) x y ≡ f x y) ⊎ ((plane.cell (listed ps) x y ≡ 0) × All (λ q. y ≡ q.y → x ≡ q.x → ⊥) ps)

  one_more_listed : (p : Point) (ps : List Point) (x y : ℤ) → ListedOrNone ps x y → (test : Bool) → (int_eq y p.y && int_eq x p.x) ≡ test → ListedOrNone (p ∷ ps) x y
  one_more_listed p ps x y rest true e =
      let place = place-from_true x y p e in
      inl (ap (λ t. if t then f p.x p.y else plane.cell (listed ps) x y) e ∙ ap (λ a. f a p.y) (sym place.1) ∙ ap (λ b. f x b) (sym place.0))
  one_more_listed p ps x y rest false e =
      let step = ap (λ t. if t then f p.x p.y else plane.cell (listed ps) x y) e in
      elim rest [
        | inl shows ↦ inl (step ∙ shows)
        | inr none ↦ inr (
          step ∙ none.0,
          All-cons (λ q. y ≡ q.y → x ≡ q.x → ⊥) p ps
              (λ is_y is_x. let no : true ≡ false = sym (and_from (int_eq y p.y) (int_eq x p.x) ((Decides-int_eq y p.y).1 is_y) ((Decides-int_eq x p.x).1 is_x)) ∙ e in cc) none.1,
        )
      ]

  listed_or_none : (ps : List Point) (x y : ℤ) → ListedOrNone ps x y
  listed_or_none [] x y = inr (refl, All-nil _)
  listed_or_none (p ∷ ps) x y = one_more_listed p ps x y (listed_or_none ps x y) (int_eq y p.y && int_eq x p.x) refl

  -- where those are the live places, it has each state
  pub picture_of_places : (ps : List Point) → AreLivePlaces f ps → (x y : ℤ) → f x y ≡ plane.cell (listed ps) x y
  picture_of_places ps are x y = elim (listed_or_none ps x y) [
    | inl shows ↦ sym shows
    | inr none ↦ elim (cases_eq (f x y) 0) [
      | inl dead ↦ dead ∙ sym none.0
      | inr live ↦ absurd (All-contains (λ q. y ≡ q.y → x ≡ q.x → ⊥) ps (record { y = y; x = x }) none.1 (are.all x y live) refl refl)
    ]
  ]

  -- so cells of which `count` are live have a picture
  pub picture_of : (count : ℕ) → HasPopulation f count → (picture : Picture) × ((x y : ℤ) → f x y ≡ plane.cell picture x y)
  picture_of count has = (listed has.0, picture_of_places has.0 has.1)

-- ---- low trees

-- the sides of their boxes are those of a plane's cells
pub near_bounds : (nodes : List Node) → IsSoundStore nodes → (tree : Tree) → IsLowTree nodes tree → (box : WideBounds) → IsLeastWideBox (trees.cell nodes tree) box → AreNearBounds box
near_bounds nodes sound tree is box least =
    let fits = low_fits nodes tree (some_level nodes sound tree is.is_tree) is.low in
    let left = fits box.x0 least.left.0 least.left.1 in
    let right = fits box.x1 least.right.0 least.right.1 in
    let top = fits least.top.0 box.y0 least.top.1 in
    let bottom = fits least.bottom.0 box.y1 least.bottom.1 in
    record { x0 = (left.0, left.1); y0 = (top.2, top.3); x1 = (right.0, right.1); y1 = (bottom.2, bottom.3) }
