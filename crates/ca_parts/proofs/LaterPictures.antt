-- The picture that a picture becomes: each place that sees one of its points, with its next state.
use Rattle.std.proofs.Common.{◌≡◌, ◌≢◌, ℕ, zero, suc, List, [], ◌∷◌, ◌++◌, ◌⊎◌, true, ◌&&◌, inl, inr, refl, sym, ap, ap₂, ◌∙◌, arith}
use Rattle.std.specs.Prelude.{ℤ, pos, negsuc, ◌-ℤ◌, ◌+ℤ◌, replicate}
use Rattle.std.specs.List.{All, Contains}
use Rattle.std.specs.Ordering.{int_eq}
use Rattle.std.proofs.lemmas.Bool.{cases_eq, cases_Bool, cond-true, cond-false}
use Rattle.std.proofs.lemmas.Cmp.{int_eq_equiv}
use Rattle.std.proofs.lemmas.List.Elements.{All-nil, All-cons, All-contains, Contains-append_right, Contains-append_left}
use Rattle.std.proofs.lemmas.Map.Made.{Contains-tail}
use Rattle.std.proofs.lemmas.Int.{ints}
use Rattle.ca_plane.specs.declared.point.Point.{Point}
use Rattle.ca_plane.specs.Prelude.{Picture, cell, shifted, around, after, IsAfter, IsLive}
use Rattle.ca_plane.proofs.Pictures.{place-from_true, Contains-cell}
use Rattle.ca_plane.proofs.Shifts.{cell-shifted}
use Rattle.ca_plane.proofs.After.{around-same}

-- ---- a plane's states at the points of a picture

abbrev pub seen_at : (ℤ → ℤ → ℕ) → Picture → Picture
seen_at f [] = []
seen_at f (e ∷ es) = (e.0, f e.0.x e.0.y) ∷ seen_at f es

-- the place is that of one of the points
abbrev pub IsPlaceIn : Picture → ℤ → ℤ → Type 0
IsPlaceIn es x y = (s : ℕ) × Contains es (record { y = y; x = x }, s)

-- where a point is, the plane's state is shown
pub cell-seen_at : (f : ℤ → ℤ → ℕ) (es : Picture) (x y : ℤ) → IsPlaceIn es x y → cell (seen_at f es) x y ≡ f x y
cell-seen_at f [] x y (s, (k, low, is)) = absurd (omega (arith, low))
cell-seen_at f (e ∷ es) x y (s, has) =
    elim (cases_Bool (int_eq y e.0.y && int_eq x e.0.x)) [
      | inl here ↦
          let place = place-from_true x y e.0 here in
          cond-true _ (f e.0.x e.0.y) (cell (seen_at f es) x y) here ∙ ap₂ f (sym place.1) (sym place.0)
      | inr other ↦
          let at : Point × ℕ = (record { y = y; x = x }, s) in
          let itself : (int_eq y y && int_eq x x) ≡ true = rw (int_eq_equiv.refl y, int_eq_equiv.refl x) refl in
          cond-false _ (f e.0.x e.0.y) (cell (seen_at f es) x y) other
          ∙ cell-seen_at f es x y (s, Contains-tail e es at (λ same. let tests : (int_eq y e.0.y && int_eq x e.0.x) ≡ (int_eq y y && int_eq x x) = ap (λ (q : Point × ℕ). int_eq y q.0.y && int_eq x q.0.x) same in let no : ⊥ = cc in no) has)
    ]

-- and where the plane is 0, that is
pub cell-seen_at-none : (f : ℤ → ℤ → ℕ) (es : Picture) (x y : ℤ) → f x y ≡ 0 → cell (seen_at f es) x y ≡ 0
cell-seen_at-none f [] x y none = refl
cell-seen_at-none f (e ∷ es) x y none =
    elim (cases_Bool (int_eq y e.0.y && int_eq x e.0.x)) [
      | inl here ↦
          let place = place-from_true x y e.0 here in
          cond-true _ (f e.0.x e.0.y) (cell (seen_at f es) x y) here ∙ ap₂ f (sym place.1) (sym place.0) ∙ none
      | inr other ↦ cond-false _ (f e.0.x e.0.y) (cell (seen_at f es) x y) other ∙ cell-seen_at-none f es x y none
    ]

-- ---- the places round a picture

-- all places that see a point of the picture
abbrev round : Picture → Picture
round p =
    shifted p (pos 1) (pos 1) ++ (shifted p (pos 0) (pos 1) ++ (shifted p (negsuc 0) (pos 1)
    ++ (shifted p (pos 1) (pos 0) ++ (shifted p (pos 0) (pos 0) ++ (shifted p (negsuc 0) (pos 0)
    ++ (shifted p (pos 1) (negsuc 0) ++ (shifted p (pos 0) (negsuc 0) ++ shifted p (negsuc 0) (negsuc 0))))))))

-- the cell before the move is 0, or the place is that of a moved point
none_or_moved : (p : Picture) (dx dy x y : ℤ) → (cell p (x -ℤ dx) (y -ℤ dy) ≡ 0) ⊎ IsPlaceIn (shifted p dx dy) x y
none_or_moved p dx dy x y =
    elim (cases_eq (cell (shifted p dx dy) x y) 0) [
      | inl none ↦ inl (sym (cell-shifted p dx dy x y) ∙ none)
      | inr live ↦ inr (cell (shifted p dx dy) x y, Contains-cell (shifted p dx dy) x y live)
    ]

-- two facts hold, or the place is that of a point in one of two lists
both_or_there : {A B : Type 0} (es fs : Picture) (x y : ℤ) → A ⊎ IsPlaceIn es x y → B ⊎ IsPlaceIn fs x y → (A × B) ⊎ IsPlaceIn (es ++ fs) x y
both_or_there es fs x y (inl a) (inl b) = inl (a, b)
both_or_there es fs x y (inl a) (inr (s, has)) = inr (s, Contains-append_right es fs _ has)
both_or_there es fs x y (inr (s, has)) b = inr (s, Contains-append_left es fs _ has)

-- a place sees no live cell, or is one of those round the picture
none_or_round : (p : Picture) (x y : ℤ) → (around (cell p) x y ≡ replicate 9 0) ⊎ IsPlaceIn (round p) x y
none_or_round p x y =
    let at : (dx dy : ℤ) → (cell p (x -ℤ dx) (y -ℤ dy) ≡ 0) ⊎ IsPlaceIn (shifted p dx dy) x y = λ dx dy. none_or_moved p dx dy x y in
    let all = both_or_there _ _ x y (at (pos 1) (pos 1)) (both_or_there _ _ x y (at (pos 0) (pos 1)) (both_or_there _ _ x y (at (negsuc 0) (pos 1))
    (both_or_there _ _ x y (at (pos 1) (pos 0)) (both_or_there _ _ x y (at (pos 0) (pos 0)) (both_or_there _ _ x y (at (negsuc 0) (pos 0))
    (both_or_there _ _ x y (at (pos 1) (negsuc 0)) (both_or_there _ _ x y (at (pos 0) (negsuc 0)) (at (negsuc 0) (negsuc 0))))))))) in
    let here : (a : ℤ) → a -ℤ pos 0 ≡ a = λ a. omega (arith, ints) in
    let ahead : (a : ℤ) → a -ℤ negsuc 0 ≡ a +ℤ pos 1 = λ a. omega (arith, ints) in
    let hx = here x in
    let hy = here y in
    let ex = ahead x in
    let sy = ahead y in
    elim all [
      | inr there ↦ inr there
      | inl none ↦ inl (cc)
    ]

-- ---- the later picture

pub later_picture : (List ℕ → ℕ) → Picture → Picture
later_picture next p = seen_at (after next p 1) (round p)

pub IsAfter-later_picture : (next : List ℕ → ℕ) → next (replicate 9 0) ≡ 0 → (p : Picture) → IsAfter next p 1 (later_picture next p)
unfolding later_picture
IsAfter-later_picture next quiet p x y =
    elim (none_or_round p x y) [
      | inl none ↦
          let still : after next p 1 x y ≡ 0 = ap next none ∙ quiet in
          still ∙ sym (cell-seen_at-none (after next p 1) (round p) x y still)
      | inr there ↦ sym (cell-seen_at (after next p 1) (round p) x y there)
    ]

-- the picture that it is after n generations
pub picture_after : (List ℕ → ℕ) → Picture → ℕ → Picture
picture_after next p zero = p
picture_after next p (suc n) = later_picture next (picture_after next p n)

pub IsAfter-picture_after : (next : List ℕ → ℕ) → next (replicate 9 0) ≡ 0 → (p : Picture) (n : ℕ) → IsAfter next p n (picture_after next p n)
unfolding picture_after
IsAfter-picture_after next quiet p zero x y = refl
IsAfter-picture_after next quiet p (suc n) x y =
    ap next (around-same (after next p n) (cell (picture_after next p n)) x y (λ u v _. IsAfter-picture_after next quiet p n u v))
    ∙ IsAfter-later_picture next quiet (picture_after next p n) x y

-- ---- live or not

-- some place of a point has a cell of the plane, or none has
among : (f : ℤ → ℤ → ℕ) (es : Picture) → ((x : ℤ) × (y : ℤ) × (f x y ≢ 0)) ⊎ All (λ e. f e.0.x e.0.y ≡ 0) es
among f [] = inr (All-nil (λ (e : Point × ℕ). f e.0.x e.0.y ≡ 0))
among f (e ∷ es) =
    elim (cases_eq (f e.0.x e.0.y) 0) [
      | inr live ↦ inl (e.0.x, e.0.y, live)
      | inl none ↦ elim (among f es) [ inl found ↦ inl found | inr rest ↦ inr (All-cons (λ (g : Point × ℕ). f g.0.x g.0.y ≡ 0) e es none rest) ]
    ]

-- a picture is live, or shows 0 everywhere
pub live_or_not : (p : Picture) → IsLive p ⊎ ((x y : ℤ) → cell p x y ≡ 0)
live_or_not p =
    elim (among (cell p) p) [
      | inl live ↦ inl live
      | inr none ↦ inr (λ x y. elim (cases_eq (cell p x y) 0) [
        | inl e ↦ e
        | inr live ↦ All-contains (λ (e : Point × ℕ). cell p e.0.x e.0.y ≡ 0) p (record { y = y; x = x }, cell p x y) none (Contains-cell p x y live)
      ])
    ]
