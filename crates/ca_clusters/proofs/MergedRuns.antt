-- Two parts of a plane that are made one.
use Rattle.std.proofs.Common.{◌≡◌, ℕ, suc, ◌+◌, ◌<◌, ◌≤◌, List, [], ◌∷◌, ◌++◌, length, map, get_or, take, drop, ◌⊎◌, Bool, true, false, cond, inl, inr, sym, ap, ◌∙◌, arith, subst}
use Rattle.std.specs.Prelude.{ℤ, replicate}
use Rattle.std.specs.List.{All, AllPairs, Any, remove}
use Rattle.std.proofs.lemmas.Bool.{cases_lt}
use Rattle.std.proofs.lemmas.List.{map-append, map_push, take-map, drop-map, length-map, get_or-map, get_or_default}
use Rattle.std.proofs.lemmas.List.Edits.{length-remove, get_or-remove_below, get_or-remove_above}
use Rattle.std.proofs.lemmas.List.Elements.{All-head, All-tail, All-append, All-take, All-drop, All-push, All-contains, All-map, All-weaker, Contains-get_or}
use Rattle.std.proofs.lemmas.List.Quantifiers.{all_pairs_push, all_pairs_remove}
use Rattle.std.proofs.lemmas.List.Sums.{sum_by-remove, sum_by_push}
use Rattle.ca_plane.specs.declared.point.Point.{Point}
use Rattle.ca_plane.specs.Prelude.{Picture, cell, after, IsPicture, IsLive, IsSparse}
use Rattle.ca_plane.proofs.Pictures.{Contains-cell, cell-All}
use Rattle.ca_steps.specs.Prelude.{HasStates}
use Rattle.ca_steps.proofs.OutOfReach.{all_below}
use Rattle.ca_parts.specs.Prelude.{AreApart, AreApartBefore, together, plane_at, LiesIn, IsFinerThanAll}
use Rattle.ca_parts.proofs.PartsWithin.{meeting_parts}
use Rattle.ca_clusters.specs.declared.part.Part.{Part}
use Rattle.ca_clusters.specs.Objects.{AreDisjoint}
use Rattle.ca_clusters.specs.inner.Runs.{IsRun, AreRuns, origin}
use Rattle.ca_clusters.specs.inner.Encounters.{MeetFirst}

-- ---- lists without one element

-- what holds of all holds of those that are left
pub All-remove : {X : Type 0} (P : X → Type 0) (xs : List X) (i : ℕ) → All P xs → All P (remove xs i)
All-remove P xs i all = All-append P (take i xs) (drop (suc i) xs) (All-take P i xs all) (All-drop P (suc i) xs all)

pub map-remove : {X Y : Type 0} (f : X → Y) (xs : List X) (i : ℕ) → map f (remove xs i) ≡ remove (map f xs) i
map-remove f xs i =
    let front = take-map f i xs in
    let back = drop-map f (suc i) xs in
    map-append f (take i xs) (drop (suc i) xs) ∙ cc

-- what holds of each two holds of each that is left, with the one
pairs_with : {X : Type 0} (R : X → X → Type 0) → ((x y : X) → R x y → R y x) → (xs : List X) (i : ℕ) (d : X) → i < length xs → AllPairs R xs
    → All (λ x. R x (get_or xs i d)) (remove xs i)
pairs_with R turned xs i d low pairs = λ k e within.
    let size = length-remove xs i low in
    elim (cases_lt k i) [
      | inl below ↦
          subst (λ x. R x (get_or xs i d)) (sym (get_or-remove_below xs i e k below low))
          (subst (λ y. R (get_or xs k e) y) (get_or_default xs i e d low) (pairs k i e below low))
      | inr from ↦
          subst (λ x. R x (get_or xs i d)) (sym (get_or-remove_above xs i e k from low))
          (turned (get_or xs i d) (get_or xs (k + 1) e)
          (subst (λ y. R y (get_or xs (k + 1) e)) (get_or_default xs i e d low) (pairs i (k + 1) e (omega arith) (omega arith))))
    ]

-- ---- cells of two pictures

pub disjoint_turned : (p q : Picture) → AreDisjoint (cell p) (cell q) → AreDisjoint (cell q) (cell p)
disjoint_turned p q disjoint x y = elim (disjoint x y) [ inl e ↦ inr e | inr e ↦ inl e ]

-- one cell of a list before another
cell_or_later : (here : Bool) (s rest all other : ℕ) → 1 ≤ s → (cond here s rest ≡ 0) ⊎ (other ≡ 0) → ((rest ≡ 0) ⊎ (other ≡ 0) → all ≡ rest + other)
    → cond here s all ≡ cond here s rest + other
cell_or_later true s rest all other low (inl none) later = absurd (omega arith)
cell_or_later true s rest all other low (inr none) later = omega arith
cell_or_later false s rest all other low either later = later either

-- where at most one of two is live, the one picture before the other shows their sum
pub cell-append : (p q : Picture) (x y : ℤ) → IsPicture p → (cell p x y ≡ 0) ⊎ (cell q x y ≡ 0) → cell (p ++ q) x y ≡ cell p x y + cell q x y
cell-append [] q x y states either = omega arith
cell-append (e ∷ es) q x y states either =
    cell_or_later _ e.1 (cell es x y) (cell (es ++ q) x y) (cell q x y) (All-head (λ (f : Point × ℕ). (1 ≤ f.1) × (f.1 ≤ 255)) e es states).0 either
    (cell-append es q x y (All-tail (λ (f : Point × ℕ). (1 ≤ f.1) × (f.1 ≤ 255)) e es states))

-- ---- two pictures that are made one

module _ (p q u : Picture) (disjoint : AreDisjoint (cell p) (cell q)) (both : (x y : ℤ) → cell u x y ≡ cell p x y + cell q x y) where
  pub IsLive-both : IsLive p → IsLive u
  IsLive-both (x, y, live) =
      let sum = both x y in
      (x, y, λ none. live (omega arith))

  pub HasStates-both : (count : ℕ) → IsLive p → HasStates count p → HasStates count q → IsSparse u → HasStates count u
  HasStates-both count (x, y, live) one other sparse =
      let listed : cell p x y < count = All-contains (λ (e : Point × ℕ). e.1 < count) p _ one (Contains-cell p x y live) in
      let some : 0 < count = omega arith in
      all_below u count sparse (λ a b.
      let first = cell-All (λ s. s < count) p a b some one in
      let second = cell-All (λ s. s < count) q a b some other in
      let sum = both a b in
      elim (disjoint a b) [ inl none ↦ omega arith | inr none ↦ omega arith ])

  -- what both lie in, the one does
  LiesIn-both : (d : Picture) → LiesIn p d → LiesIn q d → LiesIn u d
  LiesIn-both d one other x y live =
      let sum = both x y in
      elim (disjoint x y) [
        | inl none ↦
            let same : cell u x y ≡ cell q x y = omega arith in
            same ∙ other x y (λ z. live (same ∙ z))
        | inr none ↦
            let same : cell u x y ≡ cell p x y = omega arith in
            same ∙ one x y (λ z. live (same ∙ z))
      ]

-- ---- two of some pictures that are made one

module _ (ps : List Picture) (one other : ℕ) (order : one < other) (there : other < length ps)
    (pairs : AllPairs (λ (p q : Picture). AreDisjoint (cell p) (cell q)) ps) (u : Picture)
    (both : (x y : ℤ) → cell u x y ≡ cell (plane_at ps one) x y + cell (plane_at ps other) x y) where
  -- those that are left when the other is away, and when both are
  abbrev after_other : List Picture
  after_other = remove ps other

  abbrev left : List Picture
  left = remove after_other one

  low : one < length after_other
  low = let size = length-remove ps other there in omega arith

  first_is : get_or after_other one [] ≡ plane_at ps one
  first_is = get_or-remove_below ps other [] one order there

  two_disjoint : AreDisjoint (cell (plane_at ps one)) (cell (plane_at ps other))
  two_disjoint = pairs one other [] order there

  pub together_merged : (x y : ℤ) → together (left ++ u ∷ []) x y ≡ together ps x y
  together_merged x y =
      let with_both = sum_by_push (λ (p : Picture). cell p x y) left u in
      let with_first = sum_by-remove (λ (p : Picture). cell p x y) after_other one [] low in
      let with_second = sum_by-remove (λ (p : Picture). cell p x y) ps other [] there in
      let first : cell (get_or after_other one []) x y ≡ cell (plane_at ps one) x y = ap (λ (p : Picture). cell p x y) first_is in
      let sum = both x y in
      omega arith

  pub disjoint_merged : AllPairs (λ (p q : Picture). AreDisjoint (cell p) (cell q)) (left ++ u ∷ [])
  disjoint_merged =
      let Apart : Picture → Picture → Type 0 = λ p q. AreDisjoint (cell p) (cell q) in
      let from_other = All-remove (λ p. Apart p (plane_at ps other)) after_other one (pairs_with Apart disjoint_turned ps other [] there pairs) in
      let from_one = pairs_with Apart disjoint_turned after_other one [] low (all_pairs_remove Apart ps other there pairs) in
      all_pairs_push Apart left u (all_pairs_remove Apart after_other one low (all_pairs_remove Apart ps other there pairs))
      (λ k d within x y.
      let apart_one : AreDisjoint (cell (get_or left k d)) (cell (plane_at ps one)) =
      subst (λ (p : Picture). AreDisjoint (cell (get_or left k d)) (cell p)) first_is (from_one k d within) in
      let sum = both x y in
      elim (apart_one x y) [
        | inl none ↦ inl none
        | inr none ↦ elim (from_other k d within x y) [ inl dark ↦ inl dark | inr dark ↦ inr (omega arith) ]
      ])

  finer_merged : (next : List ℕ → ℕ) → next (replicate 9 0) ≡ 0 → (cells : ℤ → ℤ → ℕ) (n : ℕ) → ((x y : ℤ) → cells x y ≡ together ps x y) → IsFinerThanAll next cells ps
      → AllPairs (AreApartBefore next n) ps → (AreApart (after next (plane_at ps one) n) (after next (plane_at ps other) n) → ⊥) → IsFinerThanAll next cells (left ++ u ∷ [])
  finer_merged next quiet cells n whole finer before meet others division =
      let Lies : Picture → Type 0 = λ p. Any (LiesIn p) others in
      let in_one = meeting_parts next quiet cells ps others n (plane_at ps one) (plane_at ps other) whole division (finer others division) before
      (Contains-get_or ps one [] (omega arith)) (Contains-get_or ps other [] there) meet in
      All-push Lies left u (All-remove Lies after_other one (All-remove Lies ps other (finer others division)))
      (in_one.0, in_one.1, in_one.2, in_one.3, LiesIn-both (plane_at ps one) (plane_at ps other) u two_disjoint both in_one.1 in_one.4.0 in_one.4.1)

-- ---- two parts that are made one

-- a part is live, and its states are below the count
pub origin_live : (next : List ℕ → ℕ) (count : ℕ) (part : Part) → IsRun next count part → IsLive (origin part)
origin_live next count part run = run.beginning.live

pub origin_states : (next : List ℕ → ℕ) (count : ℕ) (part : Part) → IsRun next count part → HasStates count (origin part)
origin_states next count part run = run.beginning.states 0 [] run.beginning.some

pub AreRuns-merged : (next : List ℕ → ℕ) → next (replicate 9 0) ≡ 0 → (count : ℕ) (cells : ℤ → ℤ → ℕ) (parts : List Part) (one other n : ℕ) (part : Part)
    → AreRuns next count cells parts → MeetFirst next parts one other n → IsRun next count part
    → ((x y : ℤ) → cell (origin part) x y ≡ cell (plane_at (map origin parts) one) x y + cell (plane_at (map origin parts) other) x y)
    → AreRuns next count cells (remove (remove parts other) one ++ part ∷ [])
AreRuns-merged next quiet count cells parts one other n part runs first run both =
    let ps = map origin parts in
    let there : other < length ps = omega (arith, length-map parts origin, first.there) in
    let are : map origin (remove (remove parts other) one ++ part ∷ []) ≡ remove (remove ps other) one ++ origin part ∷ [] =
    map_push origin (remove (remove parts other) one) part
    ∙ ap (λ (l : List Picture). l ++ origin part ∷ []) (map-remove origin (remove parts other) one ∙ ap (λ (l : List Picture). remove l one) (map-remove origin parts other)) in
    record {
      runs = All-push (IsRun next count) (remove (remove parts other) one) part
          (All-remove (IsRun next count) (remove parts other) one (All-remove (IsRun next count) parts other runs.runs)) run;
      disjoint = subst (AllPairs (λ (p q : Picture). AreDisjoint (cell p) (cell q))) (sym are)
          (disjoint_merged ps one other first.order there runs.disjoint (origin part) both);
      whole = λ x y. runs.whole x y
          ∙ sym (ap (λ (l : List Picture). together l x y) are ∙ together_merged ps one other first.order there runs.disjoint (origin part) both x y);
      finer = subst (IsFinerThanAll next cells) (sym are)
          (finer_merged ps one other first.order there runs.disjoint (origin part) both next quiet cells n runs.whole runs.finer first.before first.meet);
    }

-- ---- two parts that are taken out

-- what two planes show that are those of two parts
pub record AreTaken (count : ℕ) (p q : Picture) : Type 0 where
  pub live : IsLive p
  pub first : HasStates count p
  pub second : HasStates count q
  pub disjoint : AreDisjoint (cell p) (cell q)

pub AreTaken-at : (next : List ℕ → ℕ) (count : ℕ) (parts : List Part) (one other : ℕ) (p q : Picture) → one < other → other < length parts → All (IsRun next count) parts
    → AllPairs (λ (r s : Picture). AreDisjoint (cell r) (cell s)) (map origin parts) → p ≡ plane_at (map origin parts) one → q ≡ plane_at (map origin parts) other → AreTaken count p q
AreTaken-at next count parts one other p q order there runs pairs first second =
    let ps = map origin parts in
    let size : other < length ps = omega (arith, length-map parts origin) in
    let lives : All IsLive ps = All-map IsLive origin parts (All-weaker (IsRun next count) (λ part. IsLive (origin part)) (origin_live next count) parts runs) in
    let states : All (HasStates count) ps = All-map (HasStates count) origin parts (All-weaker (IsRun next count) (λ part. HasStates count (origin part)) (origin_states next count) parts runs) in
    record {
      live = subst IsLive (sym first) (lives one [] (omega arith));
      first = subst (HasStates count) (sym first) (states one [] (omega arith));
      second = subst (HasStates count) (sym second) (states other [] size);
      disjoint = subst (λ (r : Picture). AreDisjoint (cell r) (cell q)) (sym first)
          (subst (λ (s : Picture). AreDisjoint (cell (plane_at ps one)) (cell s)) (sym second) (pairs one other [] order size));
    }

-- the planes with which two parts begin that were taken out one after the other, the later one first
pub first_taken : (parts rest : List Part) (one other : ℕ) (first : Part) → one < other → other < length parts → rest ≡ remove parts other → first ≡ get_or rest one first
    → origin first ≡ plane_at (map origin parts) one
first_taken parts rest one other first order there left is =
    ap origin (is ∙ ap (λ (l : List Part). get_or l one first) left ∙ get_or-remove_below parts other first one order there)
    ∙ sym (get_or-map origin parts one first [] (omega arith))

pub second_taken : (parts : List Part) (other : ℕ) (second : Part) → other < length parts → second ≡ get_or parts other second → origin second ≡ plane_at (map origin parts) other
second_taken parts other second there is = ap origin is ∙ sym (get_or-map origin parts other second [] there)
