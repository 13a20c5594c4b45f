-- Smallest boxes round the live cells of planes, where they are small, and where they are large.
use Rattle.std.proofs.Common.{◌≡◌, ◌≢◌, ℕ, ◌-◌, length, refl, sym, ap, ap₂, ◌∙◌, inl, inr, ℤ, pos, negsuc, ◌+ℤ◌, ◌-ℤ◌, arith}
use Rattle.std.specs.Prelude.{neg_ℤ, ◌≤ℤ◌}
use Rattle.std.proofs.lemmas.Bool.{cases_eq}
use Rattle.std.proofs.lemmas.Int.{ints}
use Rattle.ca_plane.specs.Prelude.{Picture, from_corner}
use Rattle.ca_plane.specs.Plane as plane
use Rattle.ca_quad.specs.declared.tree.WideBounds.{WideBounds}
use Rattle.ca_quad.specs.Prelude.{IsDead, IsLeastWideBox}
use Rattle.ca_apgcode.specs.Prelude.{GridCells, IsLeastGrid, cell, live, IsBoxRound, turned}
use Rattle.ca_apgcode.specs.declared.orientation.Orientation.{Orientation}
use Rattle.ca_apgcode.specs.declared.orientation.Orientation.TheVariants.{Upright, QuarterTurn, HalfTurn, ThreeQuarterTurn, EastWest, NorthSouth, Diagonal, Antidiagonal}
use Rattle.ca_apgcode.proofs.PlaneBoxes.{live_one, one_live, shown_at}
use Rattle.ca_apgcode.proofs.PhaseTexts.{near_each_other}
use Rattle.ca_apgcode_search.specs.declared.drawing.Window.{Window}
use Rattle.ca_apgcode_search.specs.inner.Drawn.{HasNoText, IsLarge, IsWindowOf, IsInWindow, IsDrawn}

-- ---- planes without a text

-- a dead plane
dead_turned : (p : ℤ → ℤ → ℕ) → IsDead p → (o : Orientation) (x y : ℤ) → turned o p x y ≡ 0
dead_turned p dead Upright x y = dead x y
dead_turned p dead QuarterTurn x y = dead y (neg_ℤ x)
dead_turned p dead HalfTurn x y = dead (neg_ℤ x) (neg_ℤ y)
dead_turned p dead ThreeQuarterTurn x y = dead (neg_ℤ y) x
dead_turned p dead EastWest x y = dead (neg_ℤ x) y
dead_turned p dead NorthSouth x y = dead x (neg_ℤ y)
dead_turned p dead Diagonal x y = dead y x
dead_turned p dead Antidiagonal x y = dead (neg_ℤ y) (neg_ℤ x)

pub no_text_dead : (p : ℤ → ℤ → ℕ) → IsDead p → HasNoText p
no_text_dead p dead text is =
    let q = turned is.0 p in
    let grid = is.1.0 in
    let round = is.1.1 in
    let west = round.is_least.west in
    one_live (q (round.left +ℤ pos 0) (round.top +ℤ pos west.0)) (shown_at q grid round 0 west.0 ∙ west.1) (dead_turned p dead is.0 (round.left +ℤ pos 0) (round.top +ℤ pos west.0))

-- one with a large box
pub no_text_large : (p : ℤ → ℤ → ℕ) (box : WideBounds) → IsLeastWideBox p box → IsLarge box → HasNoText p
no_text_large p box least large text is = elim large [
  | inl wide ↦
      let near = near_each_other p is.1.0 box.x0 least.left.0 box.x1 least.right.0 least.left.1 least.right.1 is.0 is.1.1 in
      omega (arith, ints, near, wide)
  | inr high ↦
      let near = near_each_other p is.1.0 least.top.0 box.y0 least.bottom.0 box.y1 least.top.1 least.bottom.1 is.0 is.1.1 in
      omega (arith, ints, near, high)
]

-- ---- a small box

-- from a number up to another one
from_to : (a b : ℤ) → a ≤ℤ b → (n : ℕ) × (b ≡ a +ℤ pos n)
from_to a b order = by_difference (b -ℤ a) refl
  where
    by_difference : (d : ℤ) → d ≡ b -ℤ a → (n : ℕ) × (b ≡ a +ℤ pos n)
    by_difference (pos n) is = (n, omega (arith, ints, is))
    by_difference (negsuc n) is = absurd (omega (arith, ints, is, order))

module _ (p : ℤ → ℤ → ℕ) (box : WideBounds) (window : Window) (least : IsLeastWideBox p box) (is : IsWindowOf box window) where
  -- its cells lie in the window
  pub in_window : (x y : ℤ) → p x y ≢ 0 → IsInWindow window x y
  in_window x y some =
      let inside = least.all x y some in
      record {
        left = omega (arith, ints, inside, is.x0);
        right = omega (arith, ints, inside, is.x1);
        top = omega (arith, ints, inside, is.y0);
        bottom = omega (arith, ints, inside, is.y1);
      }

  -- so all is dead outside it
  dead_outside : (x y : ℤ) → (IsInWindow window x y → ⊥) → live (p x y) ≡ 0
  dead_outside x y outside = elim (cases_eq (p x y) 0) [
    | inl none ↦ ap live none
    | inr some ↦ absurd (outside (in_window x y some))
  ]

  module _ (cells : Picture) (grid : GridCells) (shows : (x y : ℤ) → plane.cell cells x y ≡ p x y) (drawn : IsDrawn cells window grid) where
    shown : (u v : ℕ) → cell grid u v ≡ live (p (window.x0 +ℤ pos u) (window.y0 +ℤ pos v))
    shown u v = drawn.same u v ∙ ap live (shows (window.x0 +ℤ pos u) (window.y0 +ℤ pos v))

    shown_place : (x y dx dy : ℤ) → dx ≡ x -ℤ window.x0 → dy ≡ y -ℤ window.y0 → live (p x y) ≡ from_corner (cell grid) dx dy
    shown_place x y (pos u) (pos v) east south =
        let column : x ≡ window.x0 +ℤ pos u = omega (arith, ints, east) in
        let row : y ≡ window.y0 +ℤ pos v = omega (arith, ints, south) in
        ap live (ap₂ p column row) ∙ sym (shown u v)
    shown_place x y (pos u) (negsuc v) east south = dead_outside x y (λ inside. let top = inside.top in omega (arith, ints, south, top))
    shown_place x y (negsuc u) (pos v) east south = dead_outside x y (λ inside. let left = inside.left in omega (arith, ints, east, left))
    shown_place x y (negsuc u) (negsuc v) east south = dead_outside x y (λ inside. let left = inside.left in omega (arith, ints, east, left))

    -- a live cell of the plane is one of the grid
    lives_at : (x y : ℤ) (u v : ℕ) → p x y ≢ 0 → x ≡ window.x0 +ℤ pos u → y ≡ window.y0 +ℤ pos v → cell grid u v ≡ 1
    lives_at x y u v some column row = shown u v ∙ (sym (ap live (ap₂ p column row)) ∙ live_one (p x y) some)

    least_grid : IsLeastGrid grid
    least_grid =
        let left = in_window box.x0 least.left.0 least.left.1 in
        let right = in_window box.x1 least.right.0 least.right.1 in
        let top = in_window least.top.0 box.y0 least.top.1 in
        let bottom = in_window least.bottom.0 box.y1 least.bottom.1 in
        let west = from_to window.y0 least.left.0 left.top in
        let east = from_to window.y0 least.right.0 right.top in
        let north = from_to window.x0 least.top.0 top.left in
        let south = from_to window.x0 least.bottom.0 bottom.left in
        let width : length grid.columns ≡ window.width = drawn.fits.width in
        let height : grid.height ≡ window.height = drawn.fits.height in
        let first : box.x0 ≡ window.x0 +ℤ pos 0 = omega (arith, ints, is.x0) in
        let last : box.x1 ≡ window.x0 +ℤ pos (length grid.columns - 1) = omega (arith, ints, is.x1, right.left, width) in
        let upper : box.y0 ≡ window.y0 +ℤ pos 0 = omega (arith, ints, is.y0) in
        let lower : box.y1 ≡ window.y0 +ℤ pos (grid.height - 1) = omega (arith, ints, is.y1, bottom.top, height) in
        record {
          west = (west.0, lives_at box.x0 least.left.0 0 west.0 least.left.1 first west.1);
          east = (east.0, lives_at box.x1 least.right.0 (length grid.columns - 1) east.0 least.right.1 last east.1);
          north = (north.0, lives_at least.top.0 box.y0 north.0 0 least.top.1 north.1 upper);
          south = (south.0, lives_at least.bottom.0 box.y1 south.0 (grid.height - 1) least.bottom.1 south.1 lower);
        }

    -- the grid is its box
    pub IsBoxRound-drawn : IsBoxRound p grid
    IsBoxRound-drawn = record {
      left = window.x0;
      top = window.y0;
      is_grid = drawn.fits.is_grid;
      is_least = least_grid;
      same = λ x y. shown_place x y (x -ℤ window.x0) (y -ℤ window.y0) refl refl;
    }
