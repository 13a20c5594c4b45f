-- Where the cell of a point is among rising cells, and what a write there makes of them.
use Rattle.std.proofs.Common.{◌≡◌, ◌≢◌, ℕ, suc, ◌<◌, ◌≤◌, List, [], ◌∷◌, ◌++◌, ◌+◌, add-one, length, get_or, set, take, drop, map, Bool, true, false, ◌&&◌, sym, refl, ap, ◌∙◌, subst, arith, Result, Ok, Err, IfOk, IfErr, Ordering, Less, Equal, Greater, take-append-drop, drop-cons}
use Rattle.std.specs.Prelude.{ℤ, if◌then◌else◌}
use Rattle.std.specs.List.{All, AllByRecursion, insert, remove}
use Rattle.std.specs.List.Sorted.{IsStrictlySortedBy, IsSearchInRange, IsBinarySearchResult, IsNonDecreasingBy, IsSortedBy}
use Rattle.std.specs.Ordering.{int_eq, ordering_reverse, ordering_index, is_lt}
use Rattle.std.proofs.lemmas.Bool.{cond-false, false_from_ne_true}
use Rattle.std.proofs.lemmas.List.{get_or-map, length-map, get_or-take, get_or-drop, length-take, length-drop, take_all, drop_all, take-set, drop-set}
use Rattle.std.proofs.lemmas.List.Elements.{All-map, All-from_recursion, recursion_from_All}
use Rattle.std.proofs.lemmas.List.Sorted.{searchable_from_sorted}
use Rattle.std.proofs.lemmas.Map.Keys.{sorted_head, sorted_tail, Less-from_sorted}
use Rattle.ca_plane.specs.declared.point.Point.{Point}
use Rattle.ca_plane.specs.Prelude.{Picture, cell, Sets, IsInPlane, point_cmp, IsSparse}
use Rattle.ca_plane.specs.inner.Places.{ComeBefore, ComeBehind, IsGap, IsAt}
use Rattle.ca_plane.proofs.Pictures.{point_cmp_total, point_cmp_exact, place-from_true, apart-Less, if-swap, point-middle}
use Rattle.ca_plane.proofs.Rising.{Rises, place-itself, cell-behind, entry-same}

-- ---- one cell more, or one less, between two parts of a list

-- what holds of each image, and of the new one
put-all : {X Y : Type 0} (P : Y → Type 0) (f : X → Y) (xs t : List X) (e : X) → P (f e) → AllByRecursion P (map f (xs ++ t)) → AllByRecursion P (map f (xs ++ e ∷ t))
put-all P f [] t e here all = (here, all)
put-all P f (x ∷ xs) t e here all = (all.0, put-all P f xs t e here all.1)

-- what holds of each image still holds without one
out-all : {X Y : Type 0} (P : Y → Type 0) (f : X → Y) (xs t : List X) (e : X) → AllByRecursion P (map f (xs ++ e ∷ t)) → AllByRecursion P (map f (xs ++ t))
out-all P f [] t e all = all.1
out-all P f (x ∷ xs) t e all = (all.0, out-all P f xs t e all.1)

-- what holds of each image holds of each element, read so
pub All-from_map : {X Y : Type 0} (P : X → Type 0) (f : Y → X) (ys : List Y) → All P (map f ys) → All (λ y. P (f y)) ys
All-from_map P f ys h = λ k d l. subst P (get_or-map f ys k d (f d) l) (h k (f d) (omega (arith, length-map ys f)))

All-put : {X : Type 0} (P : X → Type 0) (xs t : List X) (e : X) → P e → All P (xs ++ t) → All P (xs ++ e ∷ t)
All-put P xs t e here all =
    All-from_map P (λ x. x) (xs ++ e ∷ t) (All-from_recursion P _ (put-all P (λ x. x) xs t e here (recursion_from_All P _ (All-map P (λ x. x) (xs ++ t) all))))

All-out : {X : Type 0} (P : X → Type 0) (xs t : List X) (e : X) → All P (xs ++ e ∷ t) → All P (xs ++ t)
All-out P xs t e all =
    All-from_map P (λ x. x) (xs ++ t) (All-from_recursion P _ (out-all P (λ x. x) xs t e (recursion_from_All P _ (All-map P (λ x. x) (xs ++ e ∷ t) all))))

Rises-put : (xs t : Picture) (e : Point × ℕ) → ComeBefore e.0 xs → ComeBehind e.0 t → Rises (xs ++ t) → Rises (xs ++ e ∷ t)
unfolding IsStrictlySortedBy
Rises-put [] t e before behind rises = (behind, rises)
Rises-put (x ∷ xs) t e before behind rises = (put-all (λ q. point_cmp x.0 q ≡ Less) (λ f. f.0) xs t e before.0 rises.0, Rises-put xs t e before.1 behind rises.1)

Rises-out : (xs t : Picture) (e : Point × ℕ) → Rises (xs ++ e ∷ t) → Rises (xs ++ t)
unfolding IsStrictlySortedBy
Rises-out [] t e rises = rises.1
Rises-out (x ∷ xs) t e rises = (out-all (λ q. point_cmp x.0 q ≡ Less) (λ f. f.0) xs t e rises.0, Rises-out xs t e rises.1)

-- in rising cells, those before one come before its point
pub before-of : (xs t : Picture) (e : Point × ℕ) → Rises (xs ++ e ∷ t) → ComeBefore e.0 xs
before-of [] t e rises = tt
before-of (x ∷ xs) t e rises = (point-middle (λ q. point_cmp x.0 q ≡ Less) xs t e (sorted_head point_cmp _ _ rises), before-of xs t e (sorted_tail point_cmp _ _ rises))

-- and those after one come after its point
pub behind-of : (xs t : Picture) (e : Point × ℕ) → Rises (xs ++ e ∷ t) → ComeBehind e.0 t
behind-of [] t e rises = sorted_head point_cmp _ _ rises
behind-of (x ∷ xs) t e rises = behind-of xs t e (sorted_tail point_cmp _ _ rises)

-- a point after the last cell is after them all
pub before-last : (xs : Picture) (e : Point × ℕ) (at : Point) → Rises (xs ++ e ∷ []) → point_cmp e.0 at ≡ Less → ComeBefore at (xs ++ e ∷ [])
before-last [] e at rises less = (less, tt)
before-last (x ∷ xs) e at rises less =
    (point_cmp_total.trans x.0 e.0 at (point-middle (λ q. point_cmp x.0 q ≡ Less) xs [] e (sorted_head point_cmp _ _ rises)) less, before-last xs e at (sorted_tail point_cmp _ _ rises) less)

-- the same of a list that ends so
pub before-end : (p xs : Picture) (e : Point × ℕ) (at : Point) → p ≡ xs ++ e ∷ [] → IsSparse p → point_cmp e.0 at ≡ Less → ComeBefore at p
before-end p xs e at ends sparse less = rw ends (before-last xs e at (subst Rises ends sparse.rising) less)

pub Less-from_is_lt : (o : Ordering) → is_lt o ≡ true → o ≡ Less
Less-from_is_lt Less e = refl
Less-from_is_lt Equal e = cc
Less-from_is_lt Greater e = cc

-- ---- what is shown

-- a cell between two parts shows at its point, and the parts everywhere else
cell-between : (xs t : Picture) (at : Point) (s : ℕ) (x y : ℤ) → ComeBefore at xs → cell (xs ++ (at, s) ∷ t) x y ≡ (if int_eq y at.y && int_eq x at.x then s else cell (xs ++ t) x y)
cell-between [] t at s x y before = refl
cell-between (f ∷ fs) t at s x y before =
    if-swap _ _ s f.1 (cell (fs ++ t) x y) _ (apart-Less f.0 at x y before.0) (cell-between fs t at s x y before.1)

-- at the point of a gap 0 is shown
pub cell-gap : (xs t : Picture) (at : Point) → ComeBefore at xs → ComeBehind at t → cell (xs ++ t) at.x at.y ≡ 0
cell-gap [] t at before behind = cell-behind at t behind
cell-gap (f ∷ fs) t at before behind =
    let fails = false_from_ne_true _ (λ passes. apart-Less f.0 at at.x at.y before.0 passes (place-itself at)) in
    cond-false _ f.1 (cell (fs ++ t) at.x at.y) fails ∙ cell-gap fs t at before.1 behind

-- the state of the cell at a point
pub cell-here : (xs t : Picture) (at : Point) (s : ℕ) → ComeBefore at xs → cell (xs ++ (at, s) ∷ t) at.x at.y ≡ s
cell-here xs t at s before = cell-between xs t at s at.x at.y before ∙ rw (place-itself at) refl

-- the second choice by one test is the first
if-again : (b : Bool) (s w v u : ℕ) → u ≡ (if b then w else v) → (if b then s else v) ≡ (if b then s else u)
if-again true s w v u e = refl
if-again false s w v u e = sym e

-- where the test gives 0, nothing is to be written
if-zero : (b : Bool) (w v u : ℕ) → u ≡ (if b then w else v) → (b ≡ true → v ≡ 0) → v ≡ (if b then 0 else u)
if-zero true w v u e zeroed = zeroed refl
if-zero false w v u e zeroed = sym e

-- a gap shows 0 at each place that is its point
gap-shown : (xs t : Picture) (at : Point) (x y : ℤ) → ComeBefore at xs → ComeBehind at t → (int_eq y at.y && int_eq x at.x) ≡ true → cell (xs ++ t) x y ≡ 0
gap-shown xs t at x y before behind passes =
    let place = place-from_true x y at passes in
    rw (place.0, place.1) (cell-gap xs t at before behind)

-- ---- writes

pub Sets-put : (p q xs t : Picture) (at : Point) (s : ℕ) → p ≡ xs ++ t → q ≡ xs ++ (at, s) ∷ t → ComeBefore at xs → Sets p q at s
Sets-put p q xs t at s one two before = rw (one, two) (λ x y. cell-between xs t at s x y before)

pub Sets-over : (p q xs t : Picture) (at : Point) (w s : ℕ) → p ≡ xs ++ (at, w) ∷ t → q ≡ xs ++ (at, s) ∷ t → ComeBefore at xs → Sets p q at s
Sets-over p q xs t at w s one two before =
    rw (one, two) (λ x y. cell-between xs t at s x y before ∙ if-again _ s w (cell (xs ++ t) x y) _ (cell-between xs t at w x y before))

pub Sets-out : (p q xs t : Picture) (at : Point) (w : ℕ) → p ≡ xs ++ (at, w) ∷ t → q ≡ xs ++ t → ComeBefore at xs → ComeBehind at t → Sets p q at 0
Sets-out p q xs t at w one two before behind =
    rw (one, two) (λ x y. if-zero _ w (cell (xs ++ t) x y) _ (cell-between xs t at w x y before) (gap-shown xs t at x y before behind))

pub Sets-none : (p xs t : Picture) (at : Point) → p ≡ xs ++ t → ComeBefore at xs → ComeBehind at t → Sets p p at 0
Sets-none p xs t at one before behind =
    rw one (λ x y. if-zero (int_eq y at.y && int_eq x at.x) (cell (xs ++ t) x y) (cell (xs ++ t) x y) (cell (xs ++ t) x y) (if-same _ _) (gap-shown xs t at x y before behind))
  where
    if-same : (b : Bool) (v : ℕ) → v ≡ (if b then v else v)
    if-same true v = refl
    if-same false v = refl

pub IsSparse-put : (p q xs t : Picture) (at : Point) (s : ℕ) → p ≡ xs ++ t → q ≡ xs ++ (at, s) ∷ t → ComeBefore at xs → ComeBehind at t → IsInPlane at → s ≢ 0 → s ≤ 255 → IsSparse p → IsSparse q
IsSparse-put p q xs t at s one two before behind within low high sparse =
    let old : IsSparse (xs ++ t) = subst IsSparse one sparse in
    rw two (record {
      states = All-put (λ e. (1 ≤ e.1) × (e.1 ≤ 255)) xs t (at, s) (omega arith, high) old.states;
      places = All-put (λ e. IsInPlane e.0) xs t (at, s) within old.places;
      rising = Rises-put xs t (at, s) before behind old.rising;
    })

pub IsSparse-out : (p q xs t : Picture) (e : Point × ℕ) → p ≡ xs ++ e ∷ t → q ≡ xs ++ t → IsSparse p → IsSparse q
IsSparse-out p q xs t e one two sparse =
    let old : IsSparse (xs ++ e ∷ t) = subst IsSparse one sparse in
    rw two (record {
      states = All-out (λ f. (1 ≤ f.1) × (f.1 ≤ 255)) xs t e old.states;
      places = All-out (λ f. IsInPlane f.0) xs t e old.places;
      rising = Rises-out xs t e old.rising;
    })

-- ---- by place

-- a list with one element set, by its parts
set-parts : {X : Type 0} (xs : List X) (i : ℕ) (v : X) → i < length xs → set xs i v ≡ take i xs ++ v ∷ drop (suc i) xs
set-parts xs i v within =
    sym (take-append-drop i (set xs i v)) ∙ rw (take-set xs i v, drop-set xs i v within, add-one) refl

pub IsAt-before : (p : Picture) (at : Point) (i : ℕ) → IsSparse p → (h : IsAt p at i) → ComeBefore at (take i p)
IsAt-before p at i sparse h = before-of (take i p) (drop (suc i) p) (at, h.state) (subst Rises h.listed sparse.rising)

pub IsAt-behind : (p : Picture) (at : Point) (i : ℕ) → IsSparse p → (h : IsAt p at i) → ComeBehind at (drop (suc i) p)
IsAt-behind p at i sparse h = behind-of (take i p) (drop (suc i) p) (at, h.state) (subst Rises h.listed sparse.rising)

-- another state written over a cell
pub Sets-set : (p : Picture) (at : Point) (i s : ℕ) → IsSparse p → IsAt p at i → Sets p (set p i (at, s)) at s
Sets-set p at i s sparse h = Sets-over p _ (take i p) (drop (suc i) p) at h.state s h.listed (set-parts p i (at, s) h.in_range) (IsAt-before p at i sparse h)

pub IsSparse-set : (p : Picture) (at : Point) (i s : ℕ) → IsSparse p → IsAt p at i → IsInPlane at → s ≢ 0 → s ≤ 255 → IsSparse (set p i (at, s))
IsSparse-set p at i s sparse h within low high =
    IsSparse-put (take i p ++ drop (suc i) p) _ (take i p) (drop (suc i) p) at s refl (set-parts p i (at, s) h.in_range) (IsAt-before p at i sparse h) (IsAt-behind p at i sparse h) within low high
    (IsSparse-out p _ (take i p) (drop (suc i) p) (at, h.state) h.listed refl sparse)

-- a cell taken out
pub Sets-remove : (p : Picture) (at : Point) (i : ℕ) → IsSparse p → IsAt p at i → Sets p (remove p i) at 0
Sets-remove p at i sparse h = Sets-out p _ (take i p) (drop (suc i) p) at h.state h.listed refl (IsAt-before p at i sparse h) (IsAt-behind p at i sparse h)

pub IsSparse-remove : (p : Picture) (at : Point) (i : ℕ) → IsSparse p → IsAt p at i → IsSparse (remove p i)
IsSparse-remove p at i sparse h = IsSparse-out p _ (take i p) (drop (suc i) p) (at, h.state) h.listed refl sparse

-- a cell put into its gap
pub Sets-insert : (p : Picture) (at : Point) (i s : ℕ) → IsGap p at i → Sets p (insert p i (at, s)) at s
Sets-insert p at i s gap = Sets-put p _ (take i p) (drop i p) at s (sym (take-append-drop i p)) refl gap.before

pub IsSparse-insert : (p : Picture) (at : Point) (i s : ℕ) → IsSparse p → IsGap p at i → IsInPlane at → s ≢ 0 → s ≤ 255 → IsSparse (insert p i (at, s))
IsSparse-insert p at i s sparse gap within low high = IsSparse-put p _ (take i p) (drop i p) at s (sym (take-append-drop i p)) refl gap.before gap.behind within low high sparse

-- 0 written into a gap
pub Sets-gap : (p : Picture) (at : Point) (i : ℕ) → IsGap p at i → Sets p p at 0
Sets-gap p at i gap = Sets-none p (take i p) (drop i p) at (sym (take-append-drop i p)) gap.before gap.behind

-- what is shown at the point
pub cell-at_gap : (p : Picture) (at : Point) (i : ℕ) → IsGap p at i → cell p at.x at.y ≡ 0
cell-at_gap p at i gap = ap (λ q. cell q at.x at.y) (sym (take-append-drop i p)) ∙ cell-gap (take i p) (drop i p) at gap.before gap.behind

pub cell-at_place : (p : Picture) (at : Point) (i : ℕ) (d : Point × ℕ) → IsSparse p → IsAt p at i → cell p at.x at.y ≡ (get_or p i d).1
cell-at_place p at i d sparse h =
    let here : drop i p ≡ get_or p i d ∷ drop (suc i) p = drop-cons p i d h.in_range in
    let parts : p ≡ take i p ++ get_or p i d ∷ drop (suc i) p = sym (take-append-drop i p) ∙ ap (λ l. take i p ++ l) here in
    let same : take i p ++ (at, h.state) ∷ drop (suc i) p ≡ take i p ++ get_or p i d ∷ drop (suc i) p = sym h.listed ∙ parts in
    let entry : (at, h.state) ≡ get_or p i d = same-middle (take i p) (drop (suc i) p) (at, h.state) (get_or p i d) same in
    ap (λ q. cell q at.x at.y) h.listed ∙ cell-here (take i p) (drop (suc i) p) at h.state (IsAt-before p at i sparse h) ∙ ap (λ (e : Point × ℕ). e.1) entry
  where
    same-middle : (xs t : Picture) (e f : Point × ℕ) → xs ++ e ∷ t ≡ xs ++ f ∷ t → e ≡ f
    same-middle [] t e f same = cc
    same-middle (x ∷ xs) t e f same = let rest : xs ++ e ∷ t ≡ xs ++ f ∷ t = cc in same-middle xs t e f rest

-- ---- the search

-- a point after the end
pub IsGap-end : (p : Picture) (at : Point) → ComeBefore at p → IsGap p at (length p)
IsGap-end p at before = record {
  in_range = omega arith;
  before = rw (take_all (length p) p (omega arith)) before;
  behind = rw (drop_all (length p) p (omega arith)) tt;
}

module _ (p : Picture) (sparse : IsSparse p) (at : Point) where
  -- the cells before a place come before those after it
  falls_nowhere : IsSortedBy (λ (a : Point × ℕ) (b : Point × ℕ). is_lt (point_cmp a.0 b.0)) p
  falls_nowhere k d low high =
      let one : get_or (map (λ (e : Point × ℕ). e.0) p) k d.0 ≡ (get_or p k d).0 = get_or-map (λ (e : Point × ℕ). e.0) p k d d.0 (omega arith) in
      let two : get_or (map (λ (e : Point × ℕ). e.0) p) (k + 1) d.0 ≡ (get_or p (k + 1) d).0 = get_or-map (λ (e : Point × ℕ). e.0) p (k + 1) d d.0 (omega arith) in
      let less = Less-from_sorted point_cmp (map (λ (e : Point × ℕ). e.0) p) k (k + 1) d.0 sparse.rising (omega arith) (omega (arith, length-map p (λ (e : Point × ℕ). e.0))) in
      let rises : point_cmp (get_or p k d).0 (get_or p (k + 1) d).0 ≡ Less = rw (← one, ← two) less in
      ap is_lt (point_cmp_total.antisymm (get_or p (k + 1) d).0 (get_or p k d).0 ∙ ap ordering_reverse rises)

  comparisons_rise : IsNonDecreasingBy (λ (e : Point × ℕ). ordering_index (point_cmp e.0 at)) p
  comparisons_rise = searchable_from_sorted point_cmp_total (λ (e : Point × ℕ). e.0) p at falls_nowhere

  -- a binary search by the points ends at the cell, or at the gap for it
  pub searched : (r : Result ℕ ℕ) → IsSearchInRange r (length p) → IsBinarySearchResult (λ (e : Point × ℕ). point_cmp e.0 at) p r → record { found : IfOk r (IsAt p at); absent : IfErr r (IsGap p at) }
  searched (Ok i) in_range equal =
      let d : Point × ℕ = (at, 0) in
      let there : (get_or p i d).0 ≡ at = point_cmp_exact _ _ (equal d) in
      let entry : get_or p i d ≡ (at, (get_or p i d).1) = entry-same _ _ there refl in
      record {
        found = record {
          state = (get_or p i d).1;
          in_range = in_range;
          listed = sym (take-append-drop i p) ∙ ap (λ l. take i p ++ l) (drop-cons p i d in_range ∙ ap (λ (e : Point × ℕ). e ∷ drop (suc i) p) entry);
        };
        absent = tt;
      }
  searched (Err i) in_range parted =
      let both = parted comparisons_rise in
      let before : All (λ (e : Point × ℕ). point_cmp e.0 at ≡ Less) (take i p) = λ k d l. rw (get_or-take i p k d (omega (arith, length-take i p))) (both.0 k d (omega arith) (omega (arith, length-take i p))) in
      let behind : All (λ (e : Point × ℕ). point_cmp at e.0 ≡ Less) (drop i p) = λ k d l. rw (get_or-drop i p k d) (point_cmp_total.antisymm at _ ∙ ap ordering_reverse (both.1 (i + k) d (omega arith) (omega (arith, length-drop i p)))) in
      record {
        found = tt;
        absent = record {
          in_range = in_range;
          before = recursion_from_All (λ q. point_cmp q at ≡ Less) _ (All-map (λ q. point_cmp q at ≡ Less) (λ (e : Point × ℕ). e.0) (take i p) before);
          behind = recursion_from_All (λ q. point_cmp at q ≡ Less) _ (All-map (λ q. point_cmp at q ≡ Less) (λ (e : Point × ℕ). e.0) (drop i p) behind);
        };
      }
