-- Groups of cells of which no two touch, and some of them that are made one.
use Rattle.std.proofs.Common.{◌≡◌, ◌≢◌, ℕ, ◌+◌, ◌≤◌, List, [], ◌∷◌, ◌++◌, get_or, ◌⊎◌, ◌&&◌, inl, inr, refl, sym, ap, ◌∙◌, subst, append_assoc, arith}
use Rattle.std.specs.Prelude.{ℤ, if◌then◌else◌}
use Rattle.std.specs.Ordering.{int_eq}
use Rattle.std.specs.List.{All, AllPairs}
use Rattle.std.proofs.lemmas.Bool.{cases_Bool, cases_eq}
use Rattle.std.proofs.lemmas.Int.{ints}
use Rattle.std.proofs.lemmas.List.{append-nil}
use Rattle.std.proofs.lemmas.List.Elements.{All-cons, All-head, All-tail}
use Rattle.std.proofs.lemmas.List.Kept.{AllPairs-cons}
use Rattle.std.proofs.lemmas.List.Quantifiers.{all_pairs_push}
use Rattle.std.proofs.lemmas.List.Sums.{sum_by-cons, sum_by-append, sum_by_push}
use Rattle.ca_plane.specs.Prelude.{Picture, IsPicture, IsSame, cell}
use Rattle.ca_parts.specs.Prelude.{DontTouch}
use Rattle.ca_parts.proofs.Lists.{AllPairs-head, AllPairs-tail}
use Rattle.ca_clusters.specs.Objects.{AreDisjoint}
use Rattle.ca_clusters.specs.inner.Groups.{AreGroups}

-- ---- one picture after another

-- a place that the earlier picture shows as 0 is as in the later,
cell_behind : (p q : Picture) (x y : ℤ) → IsPicture p → cell p x y ≡ 0 → cell (p ++ q) x y ≡ cell q x y
cell_behind [] q x y states none = refl
cell_behind (e ∷ es) q x y states none =
    let low = (All-head (λ e. (1 ≤ e.1) × (e.1 ≤ 255)) e es states).0 in
    elim (cases_Bool (int_eq y e.0.y && int_eq x e.0.x)) [
      | inl t ↦ absurd (omega (arith, low, (rw t at none)))
      | inr t ↦ rw t (cell_behind es q x y (All-tail (λ e. (1 ≤ e.1) × (e.1 ≤ 255)) e es states) (rw t at none))
    ]

-- and one that the later shows as 0 as in the earlier
cell_before : (p q : Picture) (x y : ℤ) → cell q x y ≡ 0 → cell (p ++ q) x y ≡ cell p x y
cell_before [] q x y none = none
cell_before (e ∷ es) q x y none = ap (λ s. if int_eq y e.0.y && int_eq x e.0.x then e.1 else s) (cell_before es q x y none)

-- where one of them shows 0, they show the sum
pub cell_of_both : (p q : Picture) (x y : ℤ) → IsPicture p → (cell p x y ≡ 0) ⊎ (cell q x y ≡ 0) → cell (p ++ q) x y ≡ cell p x y + cell q x y
cell_of_both p q x y states (inl none) = let same = cell_behind p q x y states none in omega (arith, same, none)
cell_of_both p q x y states (inr none) = let same = cell_before p q x y none in omega (arith, same, none)

-- what both show, one of them shows
one_of_both : (p q : Picture) (x y : ℤ) → IsPicture p → cell (p ++ q) x y ≢ 0 → (cell p x y ≢ 0) ⊎ (cell q x y ≢ 0)
one_of_both p q x y states live =
    elim (cases_eq (cell p x y) 0) [
      | inl none ↦ inr (λ z. live (cell_behind p q x y states none ∙ z))
      | inr here ↦ inl here
    ]

-- ---- cells that don't touch

pub DontTouch-turned : (f g : ℤ → ℤ → ℕ) → DontTouch f g → DontTouch g f
DontTouch-turned f g apart x y u v live live_too within =
    apart u v x y live_too live (omega (arith, ints, within), omega (arith, ints, within), omega (arith, ints, within), omega (arith, ints, within))

-- no place is live in both
pub disjoint_from_apart : (f g : ℤ → ℤ → ℕ) → DontTouch f g → AreDisjoint f g
disjoint_from_apart f g apart x y =
    elim (cases_eq (f x y) 0) [
      | inl none ↦ inl none
      | inr live ↦ elim (cases_eq (g x y) 0) [
        | inl none ↦ inr none
        | inr live_too ↦ absurd (apart x y x y live live_too (omega (arith, ints), omega (arith, ints), omega (arith, ints), omega (arith, ints)))
      ]
    ]

-- two pictures, one listed behind the other, touch nothing that neither touches
apart_from_both : (p q r : Picture) → IsPicture p → DontTouch (cell p) (cell r) → DontTouch (cell q) (cell r) → DontTouch (cell (p ++ q)) (cell r)
apart_from_both p q r states one two x y u v live live_too within =
    elim (one_of_both p q x y states live) [
      | inl here ↦ one x y u v here live_too within
      | inr here ↦ two x y u v here live_too within
    ]

-- ---- one element out of a list

all_out : {X : Type 0} (P : X → Type 0) (xs : List X) (y : X) (ys : List X) → All P (xs ++ y ∷ ys) → P y × All P (xs ++ ys)
all_out P [] y ys all = (All-head P y ys all, All-tail P y ys all)
all_out P (x ∷ xs) y ys all =
    let (here, rest) = all_out P xs y ys (All-tail P x (xs ++ y ∷ ys) all) in
    (here, All-cons P x (xs ++ ys) (All-head P x (xs ++ y ∷ ys) all) rest)

pairs_out : {X : Type 0} (R : X → X → Type 0) → ((x y : X) → R x y → R y x) → (xs : List X) (y : X) (ys : List X) → AllPairs R (xs ++ y ∷ ys) → All (R y) (xs ++ ys) × AllPairs R (xs ++ ys)
pairs_out R turned [] y ys pairs = (AllPairs-head R y ys pairs, AllPairs-tail R y ys pairs)
pairs_out R turned (x ∷ xs) y ys pairs =
    let (all, rest) = pairs_out R turned xs y ys (AllPairs-tail R x (xs ++ y ∷ ys) pairs) in
    let (here, others) = all_out (R x) xs y ys (AllPairs-head R x (xs ++ y ∷ ys) pairs) in
    (All-cons (R y) x (xs ++ ys) (turned x y here) all, AllPairs-cons R x (xs ++ ys) others rest)

-- ---- groups, of which some are made one

-- neither touches the other
abbrev KeepOff : Picture → Picture → Type 0
KeepOff p q = DontTouch (cell p) (cell q)

KeepOff-turned : (p q : Picture) → KeepOff p q → KeepOff q p
KeepOff-turned p q apart = DontTouch-turned (cell p) (cell q) apart

-- nothing is one of the groups
pub groups_start : (cells : ℤ → ℤ → ℕ) (rest : List Picture) → AreGroups cells rest → AreGroups cells ([] ∷ ([] ++ rest))
groups_start cells rest are = record {
  islands = AllPairs-cons KeepOff [] rest (λ k d low x y u v live. absurd (live refl)) are.islands;
  whole = λ x y. let sum = are.whole x y in let more = sum_by-cons (λ (p : Picture). cell p x y) [] rest in omega (arith, sum, more);
}

-- one group more is listed with those that are made one,
pub groups_seen : (cells : ℤ → ℤ → ℕ) (seen : Picture) (groups : List Picture) (p : Picture) (rest : List Picture) → IsPicture seen → AreGroups cells (seen ∷ (groups ++ p ∷ rest)) → AreGroups cells ((seen ++ p) ∷ (groups ++ rest))
groups_seen cells seen groups p rest states are =
    let head = AllPairs-head KeepOff seen (groups ++ p ∷ rest) are.islands in
    let (first, others) = all_out (KeepOff seen) groups p rest head in
    let (second, pairs) = pairs_out KeepOff KeepOff-turned groups p rest (AllPairs-tail KeepOff seen (groups ++ p ∷ rest) are.islands) in
    record {
      islands = AllPairs-cons KeepOff (seen ++ p) (groups ++ rest) (λ k d low. apart_from_both seen p (get_or (groups ++ rest) k d) states (others k d low) (second k d low)) pairs;
      whole = λ x y.
          let sum = are.whole x y in
          let f : Picture → ℕ = λ q. cell q x y in
          let both = cell_of_both seen p x y states (disjoint_from_apart (cell seen) (cell p) first x y) in
          let one = sum_by-cons f seen (groups ++ p ∷ rest) in
          let two = sum_by-append f groups (p ∷ rest) in
          let three = sum_by-cons f p rest in
          let four = sum_by-cons f (seen ++ p) (groups ++ rest) in
          let five = sum_by-append f groups rest in
          omega (arith, sum, both, one, two, three, four, five);
    }

-- or kept with the others,
pub groups_kept : (cells : ℤ → ℤ → ℕ) (seen : Picture) (groups : List Picture) (p : Picture) (rest : List Picture) → AreGroups cells (seen ∷ (groups ++ p ∷ rest)) → AreGroups cells (seen ∷ ((groups ++ p ∷ []) ++ rest))
groups_kept cells seen groups p rest are = subst (λ gs. AreGroups cells (seen ∷ gs)) (sym (append_assoc groups (p ∷ []) rest)) are

-- or left out, where it's empty
pub groups_skip : (cells : ℤ → ℤ → ℕ) (seen : Picture) (groups : List Picture) (p : Picture) (rest : List Picture) → IsPicture seen → p ≡ [] → AreGroups cells (seen ∷ (groups ++ p ∷ rest)) → AreGroups cells (seen ∷ (groups ++ rest))
groups_skip cells seen groups p rest states none are =
    subst (λ q. AreGroups cells (q ∷ (groups ++ rest))) (ap (λ q. seen ++ q) none ∙ append-nil seen) (groups_seen cells seen groups p rest states are)

-- those that are made one come last
pub groups_end : (cells : ℤ → ℤ → ℕ) (seen : Picture) (groups : List Picture) (q : Picture) → IsSame q seen → AreGroups cells (seen ∷ (groups ++ [])) → AreGroups cells (groups ++ q ∷ [])
groups_end cells seen groups q same are =
    let are_so = subst (λ gs. AreGroups cells (seen ∷ gs)) (append-nil groups) are in
    let head = AllPairs-head KeepOff seen groups are_so.islands in
    record {
      islands = all_pairs_push KeepOff groups q (AllPairs-tail KeepOff seen groups are_so.islands)
          (λ k d low x y u v live live_too within. KeepOff-turned seen (get_or groups k d) (head k d low) x y u v live (λ z. live_too (same u v ∙ z)) within);
      whole = λ x y.
          let sum = are_so.whole x y in
          let f : Picture → ℕ = λ p. cell p x y in
          let one = sum_by-cons f seen groups in
          let two = sum_by_push f groups q in
          let three = same x y in
          omega (arith, sum, one, two, three);
    }
