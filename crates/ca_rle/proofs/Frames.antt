-- The smallest box round cells that are in range.
use Rattle.std.proofs.Common.{◌≡◌, ◌≢◌, ◌↔◌, ℕ, ℤ, Option, Some, None, inl, inr, refl, ap, arith}
use Rattle.std.specs.Option.{IsNone, IfSome}
use Rattle.std.proofs.lemmas.Int.{ints}
use Rattle.std.specs.List.{All}
use Rattle.std.proofs.lemmas.List.Elements.{All-contains}
use Rattle.ca_plane.specs.declared.point.{Point.Point, Bounds.Bounds}
use Rattle.ca_plane.specs.Prelude.{Picture, IsLive, cell, IsLeastBox, IsInRange}
use Rattle.ca_plane.proofs.Pictures.{Contains-cell}
use Rattle.ca_rle.specs.inner.Boxes.{IsBoxInRange, AreBounds}
use Rattle.ca_rle.specs.inner.RunByRun.{IsCorner}
use Rattle.ca_rle.specs.Prelude.{IsFrame}

-- the place of a live cell is in range
live_in_range : (p : Picture) (x y : ℤ) → All (λ e. IsInRange e.0) p → cell p x y ≢ 0 → IsInRange (record { y = y; x = x })
live_in_range p x y all live = All-contains (λ e. IsInRange e.0) p _ all (Contains-cell p x y live)

pub box_in_range : (p : Picture) (box : Bounds) → All (λ e. IsInRange e.0) p → IsLeastBox p box → IsBoxInRange box
box_in_range p box all least =
    let left = live_in_range p box.x0 least.left.0 all least.left.1 in
    let right = live_in_range p box.x1 least.right.0 all least.right.1 in
    let top = live_in_range p least.top.0 box.y0 all least.top.1 in
    let bottom = live_in_range p least.bottom.0 box.y1 all least.bottom.1 in
    record {
      upper = (left.0, left.1, top.2, top.3);
      lower = (right.0, right.1, bottom.2, bottom.3);
      wide = (least.all box.x0 least.left.0 least.left.1).1;
      high = (least.all least.top.0 box.y0 least.top.1).3;
    }

-- the bounds that were found are such a box
pub some_in_range : (found : Option Bounds) (box : Bounds) → found ≡ Some box → IfSome found IsBoxInRange → IsBoxInRange box
some_in_range found box e within = rw e at within

-- and the smallest one
pub framed : (p : Picture) (found : Option Bounds) (box : Bounds) → found ≡ Some box → AreBounds p found → IsLeastBox p box
framed p found box e bounds = rw e at bounds

-- bounds of cells in range are in range
pub bounds_in_range : (p : Picture) (found : Option Bounds) → All (λ e. IsInRange e.0) p → AreBounds p found → IfSome found IsBoxInRange
bounds_in_range p None all bounds = tt
bounds_in_range p (Some box) all bounds = box_in_range p box all bounds

-- the bounds of a plane are bounds
pub plane_bounds : (p : Picture) (found : Option Bounds) → (IsNone found ↔ (IsLive p → ⊥)) → IfSome found (IsLeastBox p) → AreBounds p found
plane_bounds p None none some = none.0 refl
plane_bounds p (Some box) none some = some

-- cells are right of the corner of their frame and below it
pub frame_corner : (p : Picture) (found : Option Bounds) (corner : Point) (width height : ℕ) → AreBounds p found → IsFrame p corner width height → IsCorner p corner
frame_corner p found corner width height bounds (inl dead) = λ x y live. absurd (dead.0 (x, y, live))
frame_corner p found corner width height bounds (inr (box, least, at, wide, high)) = λ x y live.
    let within = least.all x y live in
    let column = ap (λ (q : Point). q.x) at in
    let row = ap (λ (q : Point). q.y) at in
    (omega (arith, ints, within.0, column), omega (arith, ints, within.2, row))

-- boxes with the same sides are the same
pub box_same : (one two : Bounds) → one.x0 ≡ two.x0 → one.y0 ≡ two.y0 → one.x1 ≡ two.x1 → one.y1 ≡ two.y1 → one ≡ two
box_same one two x0 y0 x1 y1 = λ t. record { x0 = x0 t; y0 = y0 t; x1 = x1 t; y1 = y1 t }
