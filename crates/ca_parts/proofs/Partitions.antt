-- A plane that is taken apart, part after part.
use Rattle.std.proofs.Common.{◌≡◌, ◌≢◌, ℕ, ◌+◌, ◌<◌, ◌≤◌, List, [], ◌∷◌, ◌++◌, length, get_or, map, refl, sym, ap, ◌∙◌, subst, inl, inr, arith}
use Rattle.std.specs.Prelude.{ℤ}
use Rattle.std.specs.List.{All, AllPairs, HoldsAt, sum_by}
use Rattle.std.specs.List.Sorted.{IsStrictlySortedBy}
use Rattle.std.proofs.lemmas.Bool.{cases_eq}
use Rattle.std.proofs.lemmas.List.Elements.{All-nil, All-push, All-weaker, Contains-get_or, at_from_Contains}
use Rattle.std.proofs.lemmas.List.Quantifiers.{all_pairs_push}
use Rattle.std.proofs.lemmas.List.Sums.{sum_by_push}
use Rattle.ca_plane.specs.declared.point.Point.{Point}
use Rattle.ca_plane.specs.Prelude.{Picture, cell, point_cmp, IsInPlane, IsSparse}
use Rattle.ca_plane.proofs.Pictures.{Contains-cell}
use Rattle.ca_parts.specs.Parts.{AreApart, AreFurther}
use Rattle.ca_parts.specs.Components.{IsUndivided, BeginsBefore, ArePartsOf}
use Rattle.ca_parts.specs.inner.Rows.{IsRising}
use Rattle.ca_parts.specs.inner.Taking.{TakesPart, IsLiveAt, IsDarkBefore}
use Rattle.ca_parts.proofs.RowOrder.{below_or_not}
use Rattle.ca_parts.proofs.TwoApart.{apart_from_further, further_from_apart}
use Rattle.ca_parts.proofs.Taken.{cell-rising}
use Rattle.ca_parts.proofs.Chains.{same_length, same_place}

-- parts of p were taken, those of the cells before the place, and these cells are left
pub record IsDividedBefore (reach : ℕ) (p left : Picture) (parts : List Picture) (place : ℕ) : Type 0 where
  pub places : map (λ e. e.0) left ≡ map (λ e. e.0) p
  pub together : (x y : ℤ) → cell p x y ≡ cell left x y + sum_by (λ q. cell q x y) parts
  pub undivided : All (λ q. IsUndivided (AreFurther reach) (cell q)) parts
  pub apart : AllPairs (λ q r. AreFurther reach (cell q) (cell r)) parts
  pub order : AllPairs BeginsBefore parts
  pub apart_left : All (λ q. AreFurther reach (cell q) (cell left)) parts
  pub order_left : All (λ q. BeginsBefore q left) parts
  pub dark : IsDarkBefore left place

pub IsDividedBefore-start : (reach : ℕ) (p : Picture) → IsDividedBefore reach p p [] 0
IsDividedBefore-start reach p = record {
  places = refl;
  together = λ x y. omega arith;
  undivided = All-nil _;
  apart = λ i j d low high. absurd (omega arith);
  order = λ i j d low high. absurd (omega arith);
  apart_left = All-nil _;
  order_left = All-nil _;
  dark = λ k d low. absurd (omega arith);
}

-- a place whose cell is 0
pub IsDividedBefore-skip : (reach : ℕ) (p left : Picture) (parts : List Picture) (place : ℕ) → IsDividedBefore reach p left parts place → HoldsAt (λ e. e.1 ≡ 0) left place → IsDividedBefore reach p left parts (place + 1)
IsDividedBefore-skip reach p left parts place so_far here = record {
  places = so_far.places;
  together = so_far.together;
  undivided = so_far.undivided;
  apart = so_far.apart;
  order = so_far.order;
  apart_left = so_far.apart_left;
  order_left = so_far.order_left;
  dark = λ k d low. elim (below_or_not k place) [
    | inl early ↦ so_far.dark k d early
    | inr late ↦ let same : k ≡ place = omega arith in ap (λ (i : ℕ). (get_or left i d).1) same ∙ here d
  ];
}

-- ---- one part more

module _ (reach : ℕ) (at : Point) (l l' q : Picture) (part : TakesPart reach at l l' q) where
  -- what the part shows was left, and so was what is left now
  part_live : (x y : ℤ) → cell q x y ≢ 0 → cell l x y ≢ 0
  part_live x y live = elim (part.shared x y) [ inl dark ↦ absurd (live dark.0) | inr there ↦ λ z. live (there.0 ∙ z) ]

  left_live : (x y : ℤ) → cell l' x y ≢ 0 → cell l x y ≢ 0
  left_live x y live = elim (part.shared x y) [ inl there ↦ λ z. live (there.1 ∙ z) | inr gone ↦ absurd (live gone.1) ]

  -- up to its first cell all is 0
  dark_after : (p : Picture) (place : ℕ) → IsRising p → map (λ (e : Point × ℕ). e.0) l ≡ map (λ (e : Point × ℕ). e.0) p → place < length l → HoldsAt (IsLiveAt at) l place → IsDarkBefore l place → IsDarkBefore l' (place + 1)
  dark_after p place rises places within first dark = λ k d low.
      elim (cases_eq (get_or l' k d).1 0) [
        | inl dark_there ↦ dark_there
        | inr live ↦
            let rising : IsRising l = subst (λ ps. IsStrictlySortedBy point_cmp ps) (sym places) rises in
            let rising_left : IsRising l' = subst (λ ps. IsStrictlySortedBy point_cmp ps) (sym part.places) rising in
            let within_l : k < length l = omega arith in
            let within_left : k < length l' = omega (arith, same_length l l' part.places) in
            let shown = cell-rising l' (get_or l' k d) rising_left (Contains-get_or l' k d within_left) in
            let live_there : cell l' (get_or l' k d).0.x (get_or l' k d).0.y ≢ 0 = λ z. live (sym shown ∙ z) in
            let point_is = same_place l l' k d part.places within_left in
            elim (below_or_not k place) [
              | inl early ↦
                  let was = left_live (get_or l' k d).0.x (get_or l' k d).0.y live_there in
                  let state = cell-rising l (get_or l k d) rising (Contains-get_or l k d within_l) in
                  absurd (was (subst (λ (r : Point). cell l r.x r.y ≡ 0) (sym point_is) (state ∙ dark k d early)))
              | inr late ↦
                  let same : k ≡ place = omega arith in
                  let here : (get_or l' k d).0 ≡ at = point_is ∙ ap (λ (i : ℕ). (get_or l i d).0) same ∙ (first d).0 in
                  absurd (live_there (subst (λ (r : Point). cell l' r.x r.y ≡ 0) (sym here) part.start))
            ]
      ]

  pub IsDividedBefore-part : (p : Picture) (parts : List Picture) (place : ℕ) → IsRising p → IsDividedBefore reach p l parts place → place < length l → HoldsAt (IsLiveAt at) l place → IsDividedBefore reach p l' (parts ++ q ∷ []) (place + 1)
  IsDividedBefore-part p parts place rising so_far within first = record {
    places = part.places ∙ so_far.places;
    together = λ x y.
        let before = so_far.together x y in
        let pushed = sum_by_push (λ (r : Picture). cell r x y) parts q in
        elim (part.shared x y) [ inl dark ↦ omega (arith, before, pushed, dark) | inr live ↦ omega (arith, before, pushed, live) ];
    undivided = All-push (λ (r : Picture). IsUndivided (AreFurther reach) (cell r)) parts q so_far.undivided part.undivided;
    apart = all_pairs_push (λ (r s : Picture). AreFurther reach (cell r) (cell s)) parts q so_far.apart
        (λ k d low x y u v live live_too near. so_far.apart_left k d low x y u v live (part_live u v live_too) near);
    order = all_pairs_push BeginsBefore parts q so_far.order
        (λ k d low. let begins = so_far.order_left k d low in (begins.0, begins.1, begins.2, λ u v live. begins.3 u v (part_live u v live)));
    apart_left = All-push (λ (r : Picture). AreFurther reach (cell r) (cell l')) parts q
        (λ k d low x y u v live live_too near. so_far.apart_left k d low x y u v live (left_live u v live_too) near) part.apart;
    order_left = All-push (λ (r : Picture). BeginsBefore r l') parts q
        (λ k d low. let begins = so_far.order_left k d low in (begins.0, begins.1, begins.2, λ u v live. begins.3 u v (left_live u v live))) part.order;
    dark = dark_after p place rising so_far.places within first so_far.dark;
  }

-- ---- all parts

-- where each listed state is 0, no cell is live
dark_all : (p : Picture) (n : ℕ) → length p ≤ n → IsDarkBefore p n → (x y : ℤ) → cell p x y ≡ 0
dark_all p n long dark x y =
    elim (cases_eq (cell p x y) 0) [
      | inl none ↦ none
      | inr live ↦
          let (k, low, is) = at_from_Contains p _ (Contains-cell p x y live) in
          let entry : Point × ℕ = (record { y = y; x = x }, cell p x y) in
          absurd (live (sym (ap (λ (e : Point × ℕ). e.1) (is entry)) ∙ dark k entry (omega (arith, low, long))))
    ]

pub parts_from_divided : (reach : ℕ) (p left : Picture) (parts : List Picture) (n : ℕ) → length left ≤ n → IsDividedBefore reach p left parts n → ArePartsOf (AreFurther reach) (cell p) parts
parts_from_divided reach p left parts n long divided = record {
  together = λ x y. let whole = divided.together x y in let none = dark_all left n long divided.dark x y in omega (arith, whole, none);
  undivided = divided.undivided;
  apart = divided.apart;
  order = divided.order;
}

-- parts with more than 2 between each two are apart
undivided_apart : (f : ℤ → ℤ → ℕ) → IsUndivided (AreFurther 2) f → IsUndivided AreApart f
undivided_apart f one = record { live = one.live; whole = λ g h live_g live_h sum apart. one.whole g h live_g live_h sum (further_from_apart g h apart) }

pub parts_apart : (f : ℤ → ℤ → ℕ) (parts : List Picture) → ArePartsOf (AreFurther 2) f parts → ArePartsOf AreApart f parts
parts_apart f parts are = record {
  together = are.together;
  undivided = All-weaker (λ (p : Picture). IsUndivided (AreFurther 2) (cell p)) (λ (p : Picture). IsUndivided AreApart (cell p)) (λ p one. undivided_apart (cell p) one) parts are.undivided;
  apart = λ i j d low high. apart_from_further _ _ (are.apart i j d low high);
  order = are.order;
}

-- what is left lies in the square of a plane
pub near_places : (p left : Picture) → map (λ (e : Point × ℕ). e.0) left ≡ map (λ (e : Point × ℕ). e.0) p → IsSparse p → All (λ e. IsInPlane e.0) left
near_places p left places sparse = λ k d low.
    let within : k < length p = omega (arith, low, same_length p left places) in
    subst IsInPlane (sym (same_place p left k d places low)) (sparse.places k d within)
