-- Cells that are taken from those of a plane, step by step.
use Rattle.std.proofs.Common.{◌≡◌, ◌≢◌, ℕ, zero, suc, ◌+◌, ◌<◌, [], ◌∷◌, ◌++◌, length, get_or, set, map, Bool, true, false, ◌&&◌, append_assoc, refl, sym, ap, ◌∙◌, subst, inl, inr, ◌⊎◌, arith}
use Rattle.std.specs.Prelude.{ℤ, if◌then◌else◌}
use Rattle.std.specs.List.{Contains, sum_by}
use Rattle.std.specs.List.Sorted.{IsStrictlySortedBy}
use Rattle.std.specs.Option.{unwrap_or}
use Rattle.std.specs.Ordering.{int_eq}
use Rattle.std.proofs.Math.Seq.{map-set_same}
use Rattle.std.proofs.lemmas.Int.{ints}
use Rattle.std.proofs.lemmas.Bool.{cases_Bool, cases_eq}
use Rattle.std.proofs.lemmas.Grind.{get_or-set_at}
use Rattle.std.proofs.lemmas.Cmp.{eq_by_cmp_equiv}
use Rattle.std.proofs.lemmas.List.{append-nil, length-append, get_or-set_other}
use Rattle.std.proofs.lemmas.List.Elements.{All-nil, All-append, All-weaker, All-cons, Contains-get_or, Contains-append_left, Contains-append_right}
use Rattle.std.proofs.lemmas.List.Sums.{sum_by-set}
use Rattle.std.proofs.lemmas.Map.Keys.{IsDistinct-from_sorted, sorted_tail}
use Rattle.std.proofs.lemmas.Map.Views.{lookup-from_Contains}
use Rattle.ca_plane.specs.declared.point.Point.{Point}
use Rattle.ca_plane.specs.Prelude.{Picture, cell, Sets, point_cmp}
use Rattle.ca_plane.proofs.Pictures.{point_cmp_total, cell-lookup, cell-Sets, place-from_true, if-swap, point-same}
use Rattle.ca_plane.proofs.Rising.{entry-same}
use Rattle.ca_parts.specs.inner.Rows.{IsRising}
use Rattle.ca_parts.specs.inner.Taking.{TakesCell, WasTaken, Takes}
use Rattle.ca_parts.proofs.RowOrder.{rising_less}

-- ---- one cell

-- each listed cell is shown, where the points rise
pub cell-rising : (p : Picture) (e : Point × ℕ) → IsRising p → Contains p e → cell p e.0.x e.0.y ≡ e.1
cell-rising p e rising has =
    cell-lookup p e.0
    ∙ ap (λ o. unwrap_or o 0) (lookup-from_Contains (eq_by_cmp_equiv point_cmp_total) e.0 e.1 p (IsDistinct-from_sorted point_cmp _ rising) has)

-- a test chooses between what it would choose anyway
if-again : (b : Bool) (u v w : ℕ) → (if b then u else w) ≡ (if b then u else (if b then v else w))
if-again true u v w = refl
if-again false u v w = refl

-- a listed cell with its state made 0
pub Sets-dark : (p : Picture) (k : ℕ) (d : Point × ℕ) → IsRising p → k < length p → Sets p (set p k ((get_or p k d).0, 0)) (get_or p k d).0 0
Sets-dark [] k d rising within = absurd (omega arith)
Sets-dark (e ∷ es) zero d rising within = λ x y. if-again (int_eq y e.0.y && int_eq x e.0.x) 0 e.1 (cell es x y)
Sets-dark (e ∷ es) (suc k) d rising within = λ x y.
    let before = rising_less (e ∷ es) 0 (suc k) d rising (omega arith) within in
    if-swap (int_eq y e.0.y && int_eq x e.0.x) (int_eq y (get_or es k d).0.y && int_eq x (get_or es k d).0.x) 0 e.1 (cell es x y) _
    (λ one two.
    let here = place-from_true x y e.0 one in
    let there = place-from_true x y (get_or es k d).0 two in
    omega (arith, ints, before, here, there))
    (Sets-dark es k d (sorted_tail point_cmp _ _ rising) (omega arith) x y)

-- ---- cells one after another

-- what was 0 stays 0
pub dark_kept : (A : ℤ → ℤ → Type 0) (l t l' t' : Picture) → Takes A l t l' t' → (x y : ℤ) → cell l x y ≡ 0 → cell l' x y ≡ 0
dark_kept A l t l' t' takes x y dark = elim (takes.rest x y) [ inl same ↦ same ∙ dark | inr gone ↦ gone.0 ]

-- what is live was live, with its state
pub live_kept : (A : ℤ → ℤ → Type 0) (l t l' t' : Picture) → Takes A l t l' t' → (x y : ℤ) → cell l' x y ≢ 0 → cell l' x y ≡ cell l x y
live_kept A l t l' t' takes x y live = elim (takes.rest x y) [ inl same ↦ same | inr gone ↦ absurd (live gone.0) ]

-- points that rise still do
pub rising_kept : (A : ℤ → ℤ → Type 0) (l t l' t' : Picture) → Takes A l t l' t' → IsRising l → IsRising l'
rising_kept A l t l' t' takes rising = subst (λ ps. IsStrictlySortedBy point_cmp ps) (sym takes.places) rising

-- nothing is taken
pub Takes-none : (A : ℤ → ℤ → Type 0) (l t l' t' : Picture) → l' ≡ l → t' ≡ t → Takes A l t l' t'
Takes-none A l t l' t' left_is taken_is = record {
  places = ap (λ (p : Picture). map (λ e. e.0) p) left_is;
  more = [];
  grown = taken_is ∙ sym (append-nil t);
  from = All-nil _;
  rest = λ x y. inl (ap (λ (p : Picture). cell p x y) left_is);
  fewer = omega (arith, ap (λ (p : Picture). sum_by (λ e. e.1) p) left_is, ap (λ (p : Picture). length p) taken_is);
}

-- more is taken
module _ (A : ℤ → ℤ → Type 0) (l t l1 t1 l2 t2 : Picture) (one : Takes A l t l1 t1) (two : Takes A l1 t1 l2 t2) where
  still_gone : (e : Point × ℕ) → WasTaken A l l1 e → WasTaken A l l2 e
  still_gone e was = record { area = was.area; state = was.state; live = was.live; gone = dark_kept A l1 t1 l2 t2 two e.0.x e.0.y was.gone }

  there_before : (e : Point × ℕ) → WasTaken A l1 l2 e → WasTaken A l l2 e
  there_before e was = record {
    area = was.area;
    state = sym (live_kept A l t l1 t1 one e.0.x e.0.y (λ z. was.live (sym was.state ∙ z))) ∙ was.state;
    live = was.live;
    gone = was.gone;
  }

  rest_after : (x y : ℤ) → (cell l2 x y ≡ cell l x y) ⊎ ((cell l2 x y ≡ 0) × Contains (one.more ++ two.more) (record { y = y; x = x }, cell l x y))
  rest_after x y =
      let at : Point = record { y = y; x = x } in
      elim (one.rest x y) [
        | inl same ↦ elim (two.rest x y) [
          | inl same_too ↦ inl (same_too ∙ same)
          | inr gone ↦ inr (gone.0, Contains-append_right one.more two.more _ (subst (λ (s : ℕ). Contains two.more (at, s)) same gone.1))
        ]
        | inr gone ↦ inr (dark_kept A l1 t1 l2 t2 two x y gone.0, Contains-append_left one.more two.more _ gone.1)
      ]

  pub Takes-trans : Takes A l t l2 t2
  Takes-trans = record {
    places = two.places ∙ one.places;
    more = one.more ++ two.more;
    grown = two.grown ∙ ap (λ (p : Picture). p ++ two.more) one.grown ∙ append_assoc t one.more two.more;
    from = All-append (WasTaken A l l2) one.more two.more (All-weaker (WasTaken A l l1) (WasTaken A l l2) still_gone one.more one.from) (All-weaker (WasTaken A l1 l2) (WasTaken A l l2) there_before two.more two.from);
    rest = rest_after;
    fewer = omega (arith, one.fewer, two.fewer);
  }

-- what is taken of an area is taken of a wider one
pub Takes-wider : (A B : ℤ → ℤ → Type 0) (l t l' t' : Picture) → Takes A l t l' t' → ((x y : ℤ) → A x y → cell l x y ≢ 0 → B x y) → Takes B l t l' t'
Takes-wider A B l t l' t' takes wider = record {
  places = takes.places;
  more = takes.more;
  grown = takes.grown;
  from = All-weaker (WasTaken A l l') (WasTaken B l l') (λ e was. record { area = wider e.0.x e.0.y was.area (λ z. was.live (sym was.state ∙ z)); state = was.state; live = was.live; gone = was.gone }) takes.more takes.from;
  rest = takes.rest;
  fewer = takes.fewer;
}

-- ---- one cell of an area

module _ (A : ℤ → ℤ → Type 0) (k : ℕ) (l t l' t' : Picture) (d : Point × ℕ) (rising : IsRising l) (within : k < length l) (area : A (get_or l k d).0.x (get_or l k d).0.y) where
  shown : cell l (get_or l k d).0.x (get_or l k d).0.y ≡ (get_or l k d).1
  shown = cell-rising l (get_or l k d) rising (Contains-get_or l k d within)

  taken_rest : l' ≡ set l k ((get_or l k d).0, 0) → (x y : ℤ) → (cell l' x y ≡ cell l x y) ⊎ ((cell l' x y ≡ 0) × Contains (get_or l k d ∷ []) (record { y = y; x = x }, cell l x y))
  taken_rest left_is x y =
      let at : Point = record { y = y; x = x } in
      let set_at = ap (λ (p : Picture). cell p x y) left_is ∙ Sets-dark l k d rising within x y in
      elim (cases_Bool (int_eq y (get_or l k d).0.y && int_eq x (get_or l k d).0.x)) [
        | inl here ↦
            let place = place-from_true x y (get_or l k d).0 here in
            let state : (get_or l k d).1 ≡ cell l x y = sym shown ∙ ap (λ (u : ℤ). cell l u (get_or l k d).0.y) (sym place.1) ∙ ap (λ (v : ℤ). cell l x v) (sym place.0) in
            inr (set_at ∙ ap (λ (b : Bool). if b then 0 else cell l x y) here, (0, omega arith, entry-same (get_or l k d) (at, cell l x y) (point-same (get_or l k d).0 at (sym place.0) (sym place.1)) state))
        | inr there ↦ inl (set_at ∙ ap (λ (b : Bool). if b then 0 else cell l x y) there)
      ]

  pub Takes-cell : TakesCell k l t l' t' (get_or l k d) → Takes A l t l' t'
  Takes-cell takes =
      elim takes [
        | inl none ↦ Takes-none A l t l' t' none.1 none.2
        | inr some ↦ record {
          places = ap (λ (p : Picture). map (λ e. e.0) p) some.1 ∙ map-set_same (λ (e : Point × ℕ). e.0) l k ((get_or l k d).0, 0) d refl;
          more = get_or l k d ∷ [];
          grown = some.2;
          from = All-cons (WasTaken A l l') (get_or l k d) [] (record {
            area = area;
            state = shown;
            live = some.0;
            gone = ap (λ (p : Picture). cell p (get_or l k d).0.x (get_or l k d).0.y) some.1 ∙ cell-Sets l _ (get_or l k d).0 0 (Sets-dark l k d rising within);
          }) (All-nil _);
          rest = taken_rest some.1;
          fewer =
              let one_more : length t' ≡ length t + 1 = ap (λ (p : Picture). length p) some.2 ∙ length-append t (get_or l k d ∷ []) in
              let sums = sum_by-set (λ (e : Point × ℕ). e.1) l k ((get_or l k d).0, 0) d within in
              omega (arith, one_more, sums, ap (λ (p : Picture). sum_by (λ e. e.1) p) some.1, some.0);
        }
      ]

-- the cell at a place is 0 after it was taken, and so are those that were
pub dark_at_place : (k j : ℕ) (l t l' t' : Picture) (d : Point × ℕ) → k < length l → TakesCell k l t l' t' (get_or l k d) → (j ≡ k) ⊎ ((get_or l j d).1 ≡ 0) → (get_or l' j d).1 ≡ 0
dark_at_place k j l t l' t' d within takes dark =
    elim takes [
      | inl none ↦ elim dark [
        | inl same ↦ ap (λ (p : Picture). (get_or p j d).1) none.1 ∙ ap (λ (i : ℕ). (get_or l i d).1) same ∙ none.0
        | inr was ↦ ap (λ (p : Picture). (get_or p j d).1) none.1 ∙ was
      ]
      | inr some ↦ ap (λ (p : Picture). (get_or p j d).1) some.1 ∙ elim (cases_eq j k) [
        | inl same ↦ ap (λ (e : Point × ℕ). e.1) (get_or-set_at l k j ((get_or l k d).0, 0) d same within)
        | inr other ↦ ap (λ (e : Point × ℕ). e.1) (get_or-set_other l k j ((get_or l k d).0, 0) d other) ∙ elim dark [ inl same ↦ absurd (other same) | inr was ↦ was ]
      ]
    ]
