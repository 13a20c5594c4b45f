-- The smallest box round the live cells of a picture, as it grows by one cell after another.
use Rattle.std.proofs.Common.{◌≡◌, ◌≢◌, ℕ, ◌≤◌, [], ◌∷◌, ◌++◌, Bool, Option, Some, true, false, sym, refl, ap, ◌∙◌, inl, inr, ◌⊎◌, arith, subst, append_assoc}
use Rattle.std.specs.Prelude.{ℤ, int_lt, if◌then◌else◌}
use Rattle.std.specs.Iterator.{YieldsFirst}
use Rattle.std.specs.Int.{int_min, int_max}
use Rattle.std.proofs.lemmas.Bool.{cases_cond}
use Rattle.std.proofs.lemmas.Map.Iter.{rest_more}
use Rattle.std.proofs.lemmas.Int.{ints, clamps}
use Rattle.ca_plane.specs.declared.point.{Point.Point, Bounds.Bounds}
use Rattle.ca_plane.specs.Prelude.{Picture, cell, IsLive, Sets, IsSparse, IsInBox, IsLeastBox}
use Rattle.ca_plane.proofs.Pictures.{place-from_true, cell-Sets, Sets-push, IsListed-at}

-- a choice of two that aren't 0 isn't 0
if-nonzero : (b : Bool) (s v w : ℕ) → w ≡ (if b then s else v) → s ≢ 0 → v ≢ 0 → w ≢ 0
if-nonzero true s v w e one two = λ z. one (sym e ∙ z)
if-nonzero false s v w e one two = λ z. two (sym e ∙ z)

-- where a choice isn't 0, the test holds or the other number isn't 0
if-cases : (b : Bool) (s v w : ℕ) → w ≡ (if b then s else v) → w ≢ 0 → (b ≡ true) ⊎ (v ≢ 0)
if-cases true s v w e some = inl refl
if-cases false s v w e some = inr (λ z. some (e ∙ z))

-- a live cell stays live where a state is written that isn't 0
live-Sets : (p q : Picture) (at : Point) (s : ℕ) (x y : ℤ) → Sets p q at s → s ≢ 0 → cell p x y ≢ 0 → cell q x y ≢ 0
live-Sets p q at s x y sets some here = if-nonzero _ s (cell p x y) (cell q x y) (sets x y) some here

-- a live cell is the one that was written, or was live before
cases_live-Sets : (p q : Picture) (at : Point) (s : ℕ) (x y : ℤ) → Sets p q at s → cell q x y ≢ 0 → ((y ≡ at.y) × (x ≡ at.x)) ⊎ (cell p x y ≢ 0)
cases_live-Sets p q at s x y sets here =
    elim (if-cases _ s (cell p x y) (cell q x y) (sets x y) here) [ inl e ↦ inl (place-from_true x y at e) | inr h ↦ inr h ]

-- a side at the old x or at the point's has a live cell
live-column : (p q : Picture) (at : Point) (s : ℕ) (old new : ℤ) → Sets p q at s → s ≢ 0 → (new ≡ old) ⊎ (new ≡ at.x) → (y : ℤ) × (cell p old y ≢ 0) → (y : ℤ) × (cell q new y ≢ 0)
live-column p q at s old new sets some place here =
    elim place [
      | inl e ↦ (here.0, subst (λ (x : ℤ). cell q x here.0 ≢ 0) (sym e) (live-Sets p q at s old here.0 sets some here.1))
      | inr e ↦ (at.y, subst (λ (x : ℤ). cell q x at.y ≢ 0) (sym e) (λ z. some (sym (cell-Sets p q at s sets) ∙ z)))
    ]

-- and so one at the old y or at the point's
live-row : (p q : Picture) (at : Point) (s : ℕ) (old new : ℤ) → Sets p q at s → s ≢ 0 → (new ≡ old) ⊎ (new ≡ at.y) → (x : ℤ) × (cell p x old ≢ 0) → (x : ℤ) × (cell q x new ≢ 0)
live-row p q at s old new sets some place here =
    elim place [
      | inl e ↦ (here.0, subst (λ (y : ℤ). cell q here.0 y ≢ 0) (sym e) (live-Sets p q at s here.0 old sets some here.1))
      | inr e ↦ (at.x, subst (λ (y : ℤ). cell q at.x y ≢ 0) (sym e) (λ z. some (sym (cell-Sets p q at s sets) ∙ z)))
    ]

-- the lesser of two numbers is one of them
cases_int_min : (a b r : ℤ) → r ≡ int_min a b → (r ≡ a) ⊎ (r ≡ b)
cases_int_min a b r e = elim (cases_cond (int_lt b a) b a r e) [ inl h ↦ inr h | inr h ↦ inl h ]

-- and the greater
cases_int_max : (a b r : ℤ) → r ≡ int_max a b → (r ≡ a) ⊎ (r ≡ b)
cases_int_max a b r e = cases_cond (int_lt b a) a b r e

-- the box grown by a point
pub record IsGrown (old new : Bounds) (at : Point) : Type 0 where
  pub x0 : new.x0 ≡ int_min old.x0 at.x
  pub y0 : new.y0 ≡ int_min old.y0 at.y
  pub x1 : new.x1 ≡ int_max old.x1 at.x
  pub y1 : new.y1 ≡ int_max old.y1 at.y

-- what was in the box stays in it
IsInBox-grown : (old new : Bounds) (at : Point) (x y : ℤ) → IsGrown old new at → IsInBox old x y → IsInBox new x y
IsInBox-grown old new at x y grown within = (omega (arith, ints, clamps), omega (arith, ints, clamps), omega (arith, ints, clamps), omega (arith, ints, clamps))

-- and the point is in it
IsInBox-point : (old new : Bounds) (at : Point) (x y : ℤ) → IsGrown old new at → (y ≡ at.y) × (x ≡ at.x) → IsInBox new x y
IsInBox-point old new at x y grown place = (omega (arith, ints, clamps), omega (arith, ints, clamps), omega (arith, ints, clamps), omega (arith, ints, clamps))

-- the smallest box grown by the point of a live cell that is written
pub IsLeastBox-grown : (p q : Picture) (at : Point) (s : ℕ) (old new : Bounds) → Sets p q at s → s ≢ 0 → IsGrown old new at → IsLeastBox p old → IsLeastBox q new
IsLeastBox-grown p q at s old new sets some grown least = record {
  all = λ x y here. elim (cases_live-Sets p q at s x y sets here) [ inl place ↦ IsInBox-point old new at x y grown place | inr was ↦ IsInBox-grown old new at x y grown (least.all x y was) ];
  left = live-column p q at s old.x0 new.x0 sets some (cases_int_min _ _ _ grown.x0) least.left;
  right = live-column p q at s old.x1 new.x1 sets some (cases_int_max _ _ _ grown.x1) least.right;
  top = live-row p q at s old.y0 new.y0 sets some (cases_int_min _ _ _ grown.y0) least.top;
  bottom = live-row p q at s old.y1 new.y1 sets some (cases_int_max _ _ _ grown.y1) least.bottom;
}

-- the smallest box round one live cell is its point
pub IsLeastBox-one : (e : Point × ℕ) (box : Bounds) → 1 ≤ e.1 → box.x0 ≡ e.0.x → box.y0 ≡ e.0.y → box.x1 ≡ e.0.x → box.y1 ≡ e.0.y → IsLeastBox (e ∷ []) box
IsLeastBox-one e box low x0 y0 x1 y1 =
    let sets : Sets [] (e ∷ []) e.0 e.1 = λ x y. refl in
    let some : e.1 ≢ 0 = omega arith in
    let here : cell (e ∷ []) e.0.x e.0.y ≢ 0 = λ z. some (sym (cell-Sets [] (e ∷ []) e.0 e.1 sets) ∙ z) in
    record {
      all = λ x y live. elim (cases_live-Sets [] (e ∷ []) e.0 e.1 x y sets live) [ inl place ↦ (omega (arith, ints), omega (arith, ints), omega (arith, ints), omega (arith, ints)) | inr was ↦ absurd (was refl) ];
      left = (e.0.y, subst (λ (x : ℤ). cell (e ∷ []) x e.0.y ≢ 0) (sym x0) here);
      right = (e.0.y, subst (λ (x : ℤ). cell (e ∷ []) x e.0.y ≢ 0) (sym x1) here);
      top = (e.0.x, subst (λ (y : ℤ). cell (e ∷ []) e.0.x y ≢ 0) (sym y0) here);
      bottom = (e.0.x, subst (λ (y : ℤ). cell (e ∷ []) e.0.x y ≢ 0) (sym y1) here);
    }

-- a picture with a smallest box is live
pub IsLive-box : (p : Picture) (box : Bounds) → IsLeastBox p box → IsLive p
IsLive-box p box least = (box.x0, least.left.0, least.left.1)

-- ---- a `for` over the cells of a plane

-- the smallest box round the cells before those that are left
abbrev pub IsBoxBefore : Picture → Picture → Bounds → Type 0
IsBoxBefore p left box = (seen : Picture) × (p ≡ seen ++ left) × IsLeastBox seen box

-- after the first cell
pub IsBoxBefore-first : (p t u : Picture) (r : Option (Point × ℕ)) (e : Point × ℕ) (box : Bounds) → IsSparse p → t ≡ p → r ≡ Some e → YieldsFirst (λ c. c) t r u → box.x0 ≡ e.0.x → box.y0 ≡ e.0.y → box.x1 ≡ e.0.x → box.y1 ≡ e.0.y → IsBoxBefore p u box
IsBoxBefore-first p t u r e box sparse start some step x0 y0 x1 y1 =
    let split : p ≡ e ∷ u = sym start ∙ rest_more (λ e. e) t u r e some step in
    (e ∷ [], split, IsLeastBox-one e box (IsListed-at p [] u e sparse split).low x0 y0 x1 y1)

-- after one more cell
pub IsBoxBefore-turn : (p t u : Picture) (r : Option (Point × ℕ)) (e : Point × ℕ) (old new : Bounds) → IsSparse p → IsBoxBefore p t old → r ≡ Some e → YieldsFirst (λ c. c) t r u → IsGrown old new e.0 → IsBoxBefore p u new
IsBoxBefore-turn p t u r e old new sparse before some step grown =
    let xs : Picture = before.0 in
    let split : p ≡ xs ++ e ∷ u = before.1 ∙ ap (λ ys. xs ++ ys) (rest_more (λ e. e) t u r e some step) in
    let low : 1 ≤ e.1 = (IsListed-at p xs u e sparse split).low in
    (xs ++ e ∷ [], split ∙ sym (append_assoc xs (e ∷ []) u), IsLeastBox-grown xs (xs ++ e ∷ []) e.0 e.1 old new (Sets-push p xs u e sparse split) (omega arith) grown before.2)
