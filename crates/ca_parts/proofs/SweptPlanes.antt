-- Boxes round all that the planes of a part show.
use Rattle.std.proofs.Common.{◌≡◌, ◌≢◌, ℕ, ◌+◌, ◌<◌, List, [], length, get_or, Option, Some, None, sym, subst, refl, ◌∙◌, inl, inr, ◌⊎◌, arith, below_more}
use Rattle.std.specs.Prelude.{ℤ, int_lt, IfSome, IsNone}
use Rattle.std.specs.Int.{int_min, int_max}
use Rattle.std.proofs.lemmas.Bool.{cases_cond}
use Rattle.std.proofs.lemmas.List.{get_or_default}
use Rattle.std.proofs.lemmas.List.Elements.{All-contains}
use Rattle.ca_plane.specs.declared.{point.Bounds.Bounds, point.Point.Point}
use Rattle.ca_plane.specs.Prelude.{Picture, cell, IsLive, IsInPlane, IsSparse, IsLeastBox}
use Rattle.ca_plane.proofs.Pictures.{Contains-cell}
use Rattle.ca_parts.specs.Phases.{plane_at}
use Rattle.ca_parts.specs.inner.Courses.{IsNearBox, IsInSweep, SweepsBefore}
use Rattle.ca_parts.specs.inner.Sides.{IsLiveIn, TouchesEach, HasSidesOf}

-- the smallest box round live cells of a plane is near
pub IsNearBox-least : (p : Picture) (box : Bounds) → IsSparse p → IsLeastBox p box → IsNearBox box
IsNearBox-least p box sparse least =
    let at : (x y : ℤ) → cell p x y ≢ 0 → IsInPlane (record { y = y; x = x }) = λ x y live.
    All-contains (λ (e : Point × ℕ). IsInPlane e.0) p (record { y = y; x = x }, cell p x y) sparse.places (Contains-cell p x y live) in
    let left = at box.x0 least.left.0 least.left.1 in
    let right = at box.x1 least.right.0 least.right.1 in
    let top = at least.top.0 box.y0 least.top.1 in
    let bottom = at least.bottom.0 box.y1 least.bottom.1 in
    record { low = (left.0, left.1, top.2, top.3); high = (right.0, right.1, bottom.2, bottom.3) }

pub near_bounds : (p : Picture) (bounds : Option Bounds) → IsSparse p → IfSome bounds (IsLeastBox p) → IfSome bounds IsNearBox
near_bounds p None sparse least = tt
near_bounds p (Some box) sparse least = IsNearBox-least p box sparse least

-- it holds all live cells
pub live_bounds : (p : Picture) (bounds : Option Bounds) → (IsNone bounds → IsLive p → ⊥) → IfSome bounds (IsLeastBox p) → (x y : ℤ) → cell p x y ≢ 0 → IsInSweep bounds x y
live_bounds p None none least x y live = none refl (x, y, live)
live_bounds p (Some box) none least x y live = least.all x y live

-- one plane more
pub sweeps_more : (planes : List Picture) (n : ℕ) (plane : Picture) (old new : Option Bounds) → n < length planes → plane ≡ get_or planes n plane → ((x y : ℤ) → IsInSweep old x y → IsInSweep new x y)
    → ((x y : ℤ) → cell plane x y ≢ 0 → IsInSweep new x y) → SweepsBefore planes n old → SweepsBefore planes (n + 1) new
sweeps_more planes n plane old new within is wider all before =
    let same : plane_at planes n ≡ plane = get_or_default planes n [] plane within ∙ sym is in
    let Holds : ℕ → Type 0 = λ k. (x y : ℤ) → cell (plane_at planes k) x y ≢ 0 → IsInSweep new x y in
    below_more Holds n (λ k below x y live. wider x y (before k below x y live)) (λ x y live. all x y (subst (λ (q : Picture). cell q x y ≢ 0) same live))

-- ---- the sides of a box

-- the lesser of two numbers is one of them, and so is the greater
cases_int_min : (a b r : ℤ) → r ≡ int_min a b → (r ≡ a) ⊎ (r ≡ b)
cases_int_min a b r is = elim (cases_cond (int_lt b a) b a r is) [ inl h ↦ inr h | inr h ↦ inl h ]

cases_int_max : (a b r : ℤ) → r ≡ int_max a b → (r ≡ a) ⊎ (r ≡ b)
cases_int_max a b r is = cases_cond (int_lt b a) a b r is

-- nothing is new
pub sides-none : (p : Picture) (sweep : Option Bounds) → IfSome sweep (HasSidesOf sweep p)
sides-none p None = tt
sides-none p (Some box) = record { left = inl (box, refl, refl); right = inl (box, refl, refl); top = inl (box, refl, refl); bottom = inl (box, refl, refl) }

-- all is
pub sides-first : (p : Picture) (sweep : Option Bounds) (box : Bounds) → IsLeastBox p box → HasSidesOf sweep p box
sides-first p sweep box least = record { left = inr least.left; right = inr least.right; top = inr least.top; bottom = inr least.bottom }

-- or some is
pub sides-joined : (p : Picture) (sweep : Option Bounds) (one other box : Bounds) → sweep ≡ Some one → IsLeastBox p other
    → box.x0 ≡ int_min one.x0 other.x0 → box.y0 ≡ int_min one.y0 other.y0 → box.x1 ≡ int_max one.x1 other.x1 → box.y1 ≡ int_max one.y1 other.y1 → HasSidesOf sweep p box
sides-joined p sweep one other box is least x0 y0 x1 y1 = record {
  left = elim (cases_int_min one.x0 other.x0 box.x0 x0) [ inl e ↦ inl (one, is, e) | inr e ↦ inr (least.left.0, subst (λ (x : ℤ). cell p x least.left.0 ≢ 0) (sym e) least.left.1) ];
  right = elim (cases_int_max one.x1 other.x1 box.x1 x1) [ inl e ↦ inl (one, is, e) | inr e ↦ inr (least.right.0, subst (λ (x : ℤ). cell p x least.right.0 ≢ 0) (sym e) least.right.1) ];
  top = elim (cases_int_min one.y0 other.y0 box.y0 y0) [ inl e ↦ inl (one, is, e) | inr e ↦ inr (least.top.0, subst (λ (y : ℤ). cell p least.top.0 y ≢ 0) (sym e) least.top.1) ];
  bottom = elim (cases_int_max one.y1 other.y1 box.y1 y1) [ inl e ↦ inl (one, is, e) | inr e ↦ inr (least.bottom.0, subst (λ (y : ℤ). cell p least.bottom.0 y ≢ 0) (sym e) least.bottom.1) ];
}

-- what is live in the first n planes is so in one plane more
live_more : (planes : List Picture) (n : ℕ) (x y : ℤ) → IsLiveIn planes n x y → IsLiveIn planes (n + 1) x y
live_more planes n x y (k, below, live) = (k, omega arith, live)

live_last : (planes : List Picture) (n : ℕ) (plane : Picture) (x y : ℤ) → plane_at planes n ≡ plane → cell plane x y ≢ 0 → IsLiveIn planes (n + 1) x y
live_last planes n plane x y same live = (n, omega arith, subst (λ (q : Picture). cell q x y ≢ 0) (sym same) live)

-- so the box that has these sides is touched on each
touches : (planes : List Picture) (n : ℕ) (plane : Picture) (old : Option Bounds) (box : Bounds) → plane_at planes n ≡ plane → IfSome old (TouchesEach planes n) → HasSidesOf old plane box → TouchesEach planes (n + 1) box
touches planes n plane old box same before sides =
    let was : (b : Bounds) → old ≡ Some b → TouchesEach planes n b = λ b is. subst (λ (o : Option Bounds). IfSome o (TouchesEach planes n)) is before in
    record {
      left = elim sides.left [
        | inl (b, is, e) ↦ let at = (was b is).left in (at.0, subst (λ (x : ℤ). IsLiveIn planes (n + 1) x at.0) (sym e) (live_more planes n b.x0 at.0 at.1))
        | inr (y, live) ↦ (y, live_last planes n plane box.x0 y same live)
      ];
      right = elim sides.right [
        | inl (b, is, e) ↦ let at = (was b is).right in (at.0, subst (λ (x : ℤ). IsLiveIn planes (n + 1) x at.0) (sym e) (live_more planes n b.x1 at.0 at.1))
        | inr (y, live) ↦ (y, live_last planes n plane box.x1 y same live)
      ];
      top = elim sides.top [
        | inl (b, is, e) ↦ let at = (was b is).top in (at.0, subst (λ (y : ℤ). IsLiveIn planes (n + 1) at.0 y) (sym e) (live_more planes n at.0 b.y0 at.1))
        | inr (x, live) ↦ (x, live_last planes n plane x box.y0 same live)
      ];
      bottom = elim sides.bottom [
        | inl (b, is, e) ↦ let at = (was b is).bottom in (at.0, subst (λ (y : ℤ). IsLiveIn planes (n + 1) at.0 y) (sym e) (live_more planes n at.0 b.y1 at.1))
        | inr (x, live) ↦ (x, live_last planes n plane x box.y1 same live)
      ];
    }

pub touches_more : (planes : List Picture) (n : ℕ) (plane : Picture) (old new : Option Bounds) → n < length planes → plane ≡ get_or planes n plane → IfSome old (TouchesEach planes n) → IfSome new (HasSidesOf old plane) → IfSome new (TouchesEach planes (n + 1))
touches_more planes n plane old None within is before sides = tt
touches_more planes n plane old (Some box) within is before sides = touches planes n plane old box (get_or_default planes n [] plane within ∙ sym is) before sides
