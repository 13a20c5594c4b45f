-- Regions of a plane, by the places that its first generations cover, and their clusters.
use Rattle.std.proofs.Common.{◌≡◌, ◌≢◌, ℕ, ◌+◌, ◌<◌, ◌≤◌, List, [], ◌∷◌, ◌++◌, length, get_or, take, Bool, true, false, cond, ◌&&◌, inl, inr, refl, sym, ap, ap₂, ◌∙◌, arith, subst}
use Rattle.std.specs.Prelude.{ℤ, if◌then◌else◌}
use Rattle.std.specs.List.{AllPairs}
use Rattle.std.specs.Ordering.{int_eq}
use Rattle.std.proofs.lemmas.Bool.{cases_eq}
use Rattle.std.proofs.lemmas.List.{get_or_default, get_or-take, length-take-le}
use Rattle.std.proofs.lemmas.List.Elements.{All-head, All-tail, All-push, All-contains}
use Rattle.std.proofs.lemmas.List.Quantifiers.{all_pairs_push}
use Rattle.std.proofs.lemmas.List.Sums.{sum_by_more, sum_by_push, get_or-le-sum_by}
use Rattle.ca_plane.specs.declared.point.Point.{Point}
use Rattle.ca_plane.specs.Prelude.{Picture, cell, IsPicture, IsSparse, Sets}
use Rattle.ca_plane.proofs.Pictures.{Contains-cell, cell-listed, place-from_true}
use Rattle.ca_steps.specs.Prelude.{HasStates}
use Rattle.ca_parts.specs.Prelude.{Course, AreApart, together, IsDivision}
use Rattle.ca_parts.proofs.ApartPlanes.{one_live}
use Rattle.ca_parts.proofs.Sums.{one_of_sum}
use Rattle.ca_clusters.specs.Clusters.{AreClusters}
use Rattle.ca_clusters.specs.Objects.{AreDisjoint}
use Rattle.ca_clusters.specs.inner.Regions.{AreRegionsAt, IsCommon, IsCoveredBy}

-- ---- clusters of cells that are the same

IsDivision-same : (next : List ℕ → ℕ) (f g : ℤ → ℤ → ℕ) (parts : List Picture) → ((x y : ℤ) → f x y ≡ g x y) → IsDivision next f parts → IsDivision next g parts
IsDivision-same next f g parts same division = record {
  live = division.live;
  back = division.back;
  apart = division.apart;
  whole = λ x y. sym (same x y) ∙ division.whole x y;
}

pub AreClusters-same : (next : List ℕ → ℕ) (f g : ℤ → ℤ → ℕ) (courses : List Course) → ((x y : ℤ) → f x y ≡ g x y) → AreClusters next f courses → AreClusters next g courses
AreClusters-same next f g courses same are = record {
  round = are.round;
  finest = record {
    division = IsDivision-same next f g _ same are.finest.division;
    finest = λ others division. are.finest.finest others (IsDivision-same next g f others (λ x y. sym (same x y)) division);
  };
}

-- ---- places that are covered

-- what is live in the front of a list is live in all of it
first_shown : (here : Bool) (s rest all : ℕ) → cond here s rest ≢ 0 → (rest ≢ 0 → all ≢ 0) → cond here s all ≢ 0
first_shown true s rest all live later = live
first_shown false s rest all live later = later live

pub covered_first : (p q : Picture) → IsCoveredBy p (p ++ q)
covered_first [] q x y live = absurd (live refl)
covered_first (e ∷ es) q x y live = first_shown _ e.1 (cell es x y) (cell (es ++ q) x y) live (covered_first es q x y)

-- and so is what is live in the rest
second_shown : (here : Bool) (s all : ℕ) → 1 ≤ s → all ≢ 0 → cond here s all ≢ 0
second_shown true s all low live = λ none. let is : s ≡ 0 = none in absurd (omega arith)
second_shown false s all low live = live

pub covered_second : (p q : Picture) → IsPicture p → IsCoveredBy q (p ++ q)
covered_second [] q states x y live = live
covered_second (e ∷ es) q states x y live =
    second_shown _ e.1 (cell (es ++ q) x y) (All-head (λ (f : Point × ℕ). (1 ≤ f.1) × (f.1 ≤ 255)) e es states).0
    (covered_second es q (All-tail (λ (f : Point × ℕ). (1 ≤ f.1) × (f.1 ≤ 255)) e es states) x y live)

-- ---- cells at some places

-- a write where the test of its point holds, and where it doesn't
set_here : (p q : Picture) (at : Point) (s : ℕ) (x y : ℤ) → Sets p q at s → (int_eq y at.y && int_eq x at.x) ≡ true → cell q x y ≡ s
set_here p q at s x y sets is = sets x y ∙ ap (λ b. if b then s else cell p x y) is

set_elsewhere : (p q : Picture) (at : Point) (s : ℕ) (x y : ℤ) → Sets p q at s → (int_eq y at.y && int_eq x at.x) ≡ false → cell q x y ≡ cell p x y
set_elsewhere p q at s x y sets is = sets x y ∙ ap (λ b. if b then s else cell p x y) is

-- one more place
module _ (plane xs common later : Picture) (e : Point × ℕ) (low : 1 ≤ e.1) (place : Sets xs (xs ++ e ∷ []) e.0 e.1) (state : Sets common later e.0 (cell plane e.0.x e.0.y)) (so_far : IsCommon plane (cell xs) (cell common)) where
  none_more : (x y : ℤ) (here : Bool) → (int_eq y e.0.y && int_eq x e.0.x) ≡ here → cell (xs ++ e ∷ []) x y ≡ 0 → cell later x y ≡ 0
  none_more x y true is none = let shown = set_here xs (xs ++ e ∷ []) e.0 e.1 x y place is in absurd (omega (arith, shown, none, low))
  none_more x y false is none =
      set_elsewhere common later e.0 (cell plane e.0.x e.0.y) x y state is ∙ so_far.none x y (sym (set_elsewhere xs (xs ++ e ∷ []) e.0 e.1 x y place is) ∙ none)

  some_more : (x y : ℤ) (here : Bool) → (int_eq y e.0.y && int_eq x e.0.x) ≡ here → cell (xs ++ e ∷ []) x y ≢ 0 → cell later x y ≡ cell plane x y
  some_more x y true is some =
      let at = place-from_true x y e.0 is in
      set_here common later e.0 (cell plane e.0.x e.0.y) x y state is ∙ ap₂ (cell plane) (sym at.1) (sym at.0)
  some_more x y false is some =
      set_elsewhere common later e.0 (cell plane e.0.x e.0.y) x y state is
      ∙ so_far.some x y (λ none. some (set_elsewhere xs (xs ++ e ∷ []) e.0 e.1 x y place is ∙ none))

  pub IsCommon-more : IsCommon plane (cell (xs ++ e ∷ [])) (cell later)
  IsCommon-more = record {
    none = λ x y. none_more x y (int_eq y e.0.y && int_eq x e.0.x) refl;
    some = λ x y. some_more x y (int_eq y e.0.y && int_eq x e.0.x) refl;
  }

-- the states are those of the plane
pub IsCommon-states : (plane common : Picture) (places : ℤ → ℤ → ℕ) (count : ℕ) → IsSparse common → IsCommon plane places (cell common) → HasStates count plane → HasStates count common
IsCommon-states plane common places count sparse is states = λ k d low.
    let e : Point × ℕ = get_or common k d in
    let shown : cell common e.0.x e.0.y ≡ e.1 = cell-listed common sparse k d low in
    let live : 1 ≤ e.1 = (sparse.states k d low).0 in
    let same : cell common e.0.x e.0.y ≡ cell plane e.0.x e.0.y = is.some e.0.x e.0.y (λ none. let dead = is.none e.0.x e.0.y none in absurd (omega (arith, shown, live, dead))) in
    let listed : cell plane e.0.x e.0.y < count =
    All-contains (λ (f : Point × ℕ). f.1 < count) plane _ states (Contains-cell plane e.0.x e.0.y (λ none. absurd (omega (arith, shown, live, same, none)))) in
    let less : e.1 < count = omega (arith, shown, same, listed) in
    less

-- ---- one region more

-- of apart pictures, those before one aren't live where it is
none_before : (places : List Picture) (i : ℕ) (p : Picture) (x y : ℤ) → AllPairs (λ p q. AreApart (cell p) (cell q)) places → i < length places → p ≡ get_or places i p → cell p x y ≢ 0
    → together (take i places) x y ≡ 0
none_before places i p x y apart low is live =
    elim (cases_eq (together (take i places) x y) 0) [
      | inl none ↦ none
      | inr some ↦
          let found = one_of_sum (λ (q : Picture). cell q x y) (take i places) some in
          let q = found.0 in
          let k = found.1.0 in
          let short = length-take-le i places (omega arith) in
          let before : k < i = omega (arith, short, found.1.1) in
          let there : get_or places k q ≡ q = sym (get_or-take i places k q before) ∙ found.1.2 in
          let here : get_or places i q ≡ p = get_or_default places i q p low ∙ sym is in
          let two : AreApart (cell q) (cell p) = subst (λ (r : Picture). AreApart (cell r) (cell p)) there (subst (λ (r : Picture). AreApart (cell (get_or places k q)) (cell r)) here (apart k i q before low)) in
          absurd (one_live (cell q) (cell p) x y two found.2 live)
    ]

module _ (plane : Picture) (places regions : List Picture) (i : ℕ) (p r : Picture) (apart : AllPairs (λ p q. AreApart (cell p) (cell q)) places) (low : i < length places) (is : p ≡ get_or places i p) (common : IsCommon plane (cell p) (cell r)) (at : AreRegionsAt plane (take i places) regions) where
  -- the places so far, with those of one more
  places_more : (x y : ℤ) → together (take (i + 1) places) x y ≡ together (take i places) x y + cell p x y
  places_more x y = sum_by_more (λ (q : Picture). cell q x y) places i p low ∙ ap (λ (q : Picture). together (take i places) x y + cell q x y) (sym is)

  regions_none : (x y : ℤ) → cell p x y ≢ 0 → together regions x y ≡ 0
  regions_none x y live = at.common.none x y (none_before places i p x y apart low is live)

  common_both : IsCommon plane (together (take (i + 1) places)) (λ x y. together regions x y + cell r x y)
  common_both = record {
    none = λ x y none.
        let sum = places_more x y in
        let before : together (take i places) x y ≡ 0 = omega (arith, sum, none) in
        let here : cell p x y ≡ 0 = omega (arith, sum, none) in
        omega (arith, at.common.none x y before, common.none x y here);
    some = λ x y some.
        let sum = places_more x y in
        elim (cases_eq (cell p x y) 0) [
          | inl here ↦
              let before : together regions x y ≡ cell plane x y = at.common.some x y (λ none. some (omega (arith, sum, none, here))) in
              omega (arith, before, common.none x y here)
          | inr live ↦ omega (arith, regions_none x y live, common.some x y live)
        ];
  }

  -- a region that isn't empty is put to the others
  pub AreRegionsAt-more : ((count : ℕ) → HasStates count plane → HasStates count r) → AreRegionsAt plane (take (i + 1) places) (regions ++ r ∷ [])
  AreRegionsAt-more states = record {
    common = record {
      none = λ x y none. sum_by_push (λ (q : Picture). cell q x y) regions r ∙ common_both.none x y none;
      some = λ x y some. sum_by_push (λ (q : Picture). cell q x y) regions r ∙ common_both.some x y some;
    };
    disjoint =
        all_pairs_push (λ (s t : Picture). AreDisjoint (cell s) (cell t)) regions r at.disjoint
        (λ k d within x y.
        elim (cases_eq (cell p x y) 0) [
          | inl none ↦ inr (common.none x y none)
          | inr live ↦
              let part = get_or-le-sum_by (λ (q : Picture). cell q x y) regions k d within in
              let all : together regions x y ≡ 0 = regions_none x y live in
              inl (omega (arith, part, all))
        ]);
    states = λ count has. All-push (HasStates count) regions r (at.states count has) (states count has);
  }

  -- and an empty one is left out
  pub AreRegionsAt-empty : r ≡ [] → AreRegionsAt plane (take (i + 1) places) regions
  AreRegionsAt-empty empty =
      let nothing : (x y : ℤ) → cell r x y ≡ 0 = λ x y. ap (λ (q : Picture). cell q x y) empty in
      record {
        common = record {
          none = λ x y none. let sum = common_both.none x y none in omega (arith, sum, nothing x y);
          some = λ x y some. let sum = common_both.some x y some in omega (arith, sum, nothing x y);
        };
        disjoint = at.disjoint;
        states = at.states;
      }
