-- Courses that are apart, and the plane that the first planes of several are together.
use Rattle.std.proofs.Common.{◌≡◌, ℕ, ◌+◌, ◌<◌, ◌≤◌, List, [], ◌∷◌, ◌++◌, ◌&&◌, length, get_or, map, take, ◌⊎◌, inl, inr, refl, sym, ap, ◌∙◌, subst, arith}
use Rattle.std.specs.Prelude.{ℤ}
use Rattle.std.specs.List.{All, AllPairs, sum_by}
use Rattle.std.specs.Ordering.{int_eq}
use Rattle.std.proofs.lemmas.Bool.{cases_Bool, cases_eq, cond-true, cond-false}
use Rattle.std.proofs.lemmas.List.{get_or_default, get_or-take, length-take-le, take_more, map_push}
use Rattle.std.proofs.lemmas.List.Elements.{All-head, All-tail, All-map}
use Rattle.std.proofs.lemmas.List.Quantifiers.{all_pairs_push}
use Rattle.std.proofs.lemmas.List.Sums.{sum_by_push}
use Rattle.ca_plane.specs.declared.point.Point.{Point}
use Rattle.ca_plane.specs.Prelude.{Picture, cell, IsPicture}
use Rattle.ca_parts.specs.declared.meeting.Meeting.{Meeting}
use Rattle.ca_parts.specs.declared.meeting.Meeting.TheVariants.{Never, At, NotYet}
use Rattle.ca_parts.specs.Prelude.{Course, AreApart, together, IsShownMeeting}
use Rattle.ca_parts.proofs.ApartPlanes.{one_live}
use Rattle.ca_parts.proofs.Sums.{sum_of_none}
use Rattle.ca_clusters.specs.Clusters.{first_plane}
use Rattle.ca_clusters.specs.inner.Earlier.{AreApartUpTo}

-- ---- elements before one

-- what holds of each two elements holds of each one before an element and that
pub all_before : {X : Type 0} (R : X → X → Type 0) (xs : List X) (j : ℕ) (x : X) → j < length xs → x ≡ get_or xs j x → AllPairs R xs → All (λ y. R y x) (take j xs)
all_before R xs j x within is pairs = λ k d low.
    let long : length (take j xs) ≡ j = length-take-le j xs (omega arith) in
    let less : k < j = omega (arith, low, long) in
    let there : get_or xs j d ≡ x = get_or_default xs j d x within ∙ sym is in
    subst (λ y. R y x) (sym (get_or-take j xs k d less)) (subst (λ y. R (get_or xs k d) y) there (pairs k j d less within))

-- one element more
pub pairs_before_more : {X : Type 0} (R : X → X → Type 0) (xs : List X) (j : ℕ) (x : X) → j < length xs → x ≡ get_or xs j x → AllPairs R (take j xs) → All (λ y. R y x) (take j xs)
    → AllPairs R (take (j + 1) xs)
pairs_before_more R xs j x within is pairs all =
    let more : take j xs ++ x ∷ [] ≡ take (j + 1) xs = ap (λ y. take j xs ++ y ∷ []) is ∙ sym (take_more xs j x within) in
    subst (AllPairs R) more (all_pairs_push R (take j xs) x pairs all)

-- ---- meetings

-- courses that aren't known to meet are apart as far as was looked
pub AreApartUpTo-from_shown : (one other : Course) (n : ℕ) (meeting : Meeting) → ((k : ℕ) → meeting ≡ At k → ⊥) → IsShownMeeting one other n meeting → AreApartUpTo n one other
AreApartUpTo-from_shown one other n Never not_at shown = λ k _. shown k
AreApartUpTo-from_shown one other n (At k) not_at shown = absurd (not_at k refl)
AreApartUpTo-from_shown one other n NotYet not_at shown = shown

-- ---- pictures together

-- of pictures that aren't both live anywhere, one listed after the other, each state is the sum of theirs
cell-joined : (p q : Picture) (x y : ℤ) → IsPicture p → (cell p x y ≡ 0) ⊎ (cell q x y ≡ 0) → cell (p ++ q) x y ≡ cell p x y + cell q x y
cell-joined [] q x y states dark = omega arith
cell-joined (e ∷ es) q x y states dark =
    elim (cases_Bool (int_eq y e.0.y && int_eq x e.0.x)) [
      | inl hit ↦
          let here : cell (e ∷ es) x y ≡ e.1 = cond-true _ e.1 (cell es x y) hit in
          let low : 1 ≤ e.1 = (All-head (λ (f : Point × ℕ). (1 ≤ f.1) × (f.1 ≤ 255)) e es states).0 in
          let none : cell q x y ≡ 0 = elim dark [ inl dead ↦ absurd (omega (arith, here, dead, low)) | inr z ↦ z ] in
          cond-true _ e.1 (cell (es ++ q) x y) hit ∙ (let sum : e.1 ≡ cell (e ∷ es) x y + cell q x y = omega (arith, here, none) in sum)
      | inr miss ↦
          let here : cell (e ∷ es) x y ≡ cell es x y = cond-false _ e.1 (cell es x y) miss in
          cond-false _ e.1 (cell (es ++ q) x y) miss
          ∙ cell-joined es q x y (All-tail (λ (f : Point × ℕ). (1 ≤ f.1) × (f.1 ≤ 255)) e es states) (elim dark [ inl z ↦ inl (sym here ∙ z) | inr z ↦ inr z ])
          ∙ ap (λ n. n + cell q x y) (sym here)
    ]

-- ---- first planes together

-- the first planes of two courses are apart
abbrev pub BeginApart : Course → Course → Type 0
BeginApart one other = AreApart (cell (first_plane one)) (cell (first_plane other))

-- what shows the first planes before a course, and then lists that of this one, shows that one too
pub union_more : (courses : List Course) (i : ℕ) (c : Course) (v : Picture) → i < length courses → c ≡ get_or courses i c → IsPicture v → AllPairs BeginApart courses
    → ((x y : ℤ) → cell v x y ≡ together (map first_plane (take i courses)) x y) → (x y : ℤ) → cell (v ++ first_plane c) x y ≡ together (map first_plane (take (i + 1) courses)) x y
union_more courses i c v within is states pairs shown x y =
    let p = first_plane c in
    let more : map first_plane (take (i + 1) courses) ≡ map first_plane (take i courses) ++ p ∷ [] =
    ap (map first_plane) (take_more courses i c within) ∙ map_push first_plane (take i courses) (get_or courses i c)
    ∙ ap (λ (d : Course). map first_plane (take i courses) ++ first_plane d ∷ []) (sym is) in
    let sum : together (map first_plane (take (i + 1) courses)) x y ≡ together (map first_plane (take i courses)) x y + cell p x y =
    ap (sum_by (λ r. cell r x y)) more ∙ sum_by_push (λ r. cell r x y) (map first_plane (take i courses)) p in
    let dark : (cell v x y ≡ 0) ⊎ (cell p x y ≡ 0) =
    elim (cases_eq (cell p x y) 0) [
      | inl none ↦ inr none
      | inr live ↦ inl (shown x y ∙ sum_of_none (λ r. cell r x y) (map first_plane (take i courses))
          (All-map (λ r. cell r x y ≡ 0) first_plane (take i courses)
          (λ k d low. elim (cases_eq (cell (first_plane (get_or (take i courses) k d)) x y) 0) [
            | inl dead ↦ dead
            | inr there ↦ absurd (one_live (cell (first_plane (get_or (take i courses) k d))) (cell p) x y (all_before BeginApart courses i c within is pairs k d low) there live)
          ])))
    ] in
    cell-joined v p x y states dark ∙ ap (λ n. n + cell p x y) (shown x y) ∙ sym sum
