-- Cells that are listed one picture after another: where as many places are live as cells are listed, no place is live in two.
use Rattle.std.proofs.Common.{◌≡◌, ◌≢◌, ℕ, zero, suc, ◌<◌, ◌≤◌, List, [], ◌∷◌, ◌++◌, length, map, ◌&&◌, inl, inr, refl, sym, ap, ◌∙◌, subst, arith}
use Rattle.std.specs.Ordering.{int_eq}
use Rattle.std.specs.List.{All, AllPairs, Contains, flat_map}
use Rattle.std.specs.Set.{is_member}
use Rattle.std.proofs.lemmas.Bool.{cases_Bool, cases_eq}
use Rattle.std.proofs.lemmas.Cmp.{eq_by_cmp_equiv}
use Rattle.std.proofs.lemmas.List.{get_or-map, length-map, map-append}
use Rattle.std.proofs.lemmas.List.Elements.{All-nil, All-head, All-tail, All-append, All-contains, Contains-append_right}
use Rattle.std.proofs.lemmas.List.Kept.{AllPairs-cons}
use Rattle.std.proofs.lemmas.List.Sums.{sum_by-cons, get_or-le-sum_by}
use Rattle.std.proofs.lemmas.Map.Keys.{IsDistinct-from_sorted}
use Rattle.std.proofs.lemmas.Map.Made.{is_member-Decides, length-from_keys, IsDistinct-from_count, AllPairs-from_IsDistinct}
use Rattle.ca_plane.specs.declared.point.Point.{Point}
use Rattle.ca_plane.specs.Prelude.{Picture, IsPicture, IsSame, IsSparse, IsInPlane, cell, point_cmp}
use Rattle.ca_plane.proofs.Pictures.{point_cmp_total, Contains-cell, cell-first}
use Rattle.ca_plane.proofs.Populations.{is_point, Decides-is_point}
use Rattle.ca_parts.proofs.Lists.{AllPairs-head, AllPairs-tail}
use Rattle.ca_clusters.specs.Objects.{AreDisjoint}
use Rattle.ca_clusters.specs.inner.Groups.{IsUnionOf}
use Rattle.ca_clusters.proofs.MergedGroups.{cell_of_both}

-- ---- points that are listed

-- the points that a picture lists
abbrev points : Picture → List Point
points p = map (λ e. e.0) p

-- a place whose cell is live is listed,
listed_from_live : (p : Picture) (q : Point) → cell p q.x q.y ≢ 0 → Contains (points p) q
listed_from_live p q live =
    let (k, low, is) = Contains-cell p q.x q.y live in
    (k, omega (arith, low, length-map p (λ (e : Point × ℕ). e.0)), get_or-map (λ (e : Point × ℕ). e.0) p k (q, cell p q.x q.y) q low ∙ ap (λ (e : Point × ℕ). e.0) is)

-- and a listed place is live
live_from_listed : (p : Picture) (q : Point) → IsPicture p → Contains (points p) q → cell p q.x q.y ≢ 0
live_from_listed [] q states (k, low, is) = absurd (omega (arith, low))
live_from_listed (e ∷ es) q states (zero, low, is) =
    let some = (All-head (λ e. (1 ≤ e.1) × (e.1 ≤ 255)) e es states).0 in
    subst (λ (r : Point). cell (e ∷ es) r.x r.y ≢ 0) is (λ z. let none : e.1 ≡ 0 = sym (cell-first e es) ∙ z in omega (arith, some, none))
live_from_listed (e ∷ es) q states (suc k, low, is) =
    let some = (All-head (λ e. (1 ≤ e.1) × (e.1 ≤ 255)) e es states).0 in
    let later = live_from_listed es q (All-tail (λ e. (1 ≤ e.1) × (e.1 ≤ 255)) e es states) (k, omega (arith, low), is) in
    elim (cases_Bool (int_eq q.y e.0.y && int_eq q.x e.0.x)) [
      | inl t ↦ λ z. omega (arith, some, (rw t at z))
      | inr t ↦ λ z. later (rw t at z)
    ]

-- ---- one list after another

pairs_behind : {X : Type 0} (R : X → X → Type 0) (xs ys : List X) → AllPairs R (xs ++ ys) → AllPairs R ys
pairs_behind R [] ys pairs = pairs
pairs_behind R (x ∷ xs) ys pairs = pairs_behind R xs ys (AllPairs-tail R x (xs ++ ys) pairs)

pairs_across : {X : Type 0} (R : X → X → Type 0) (xs ys : List X) (x y : X) → AllPairs R (xs ++ ys) → Contains xs x → Contains ys y → R x y
pairs_across R [] ys x y pairs (k, low, is) has = absurd (omega (arith, low))
pairs_across R (z ∷ zs) ys x y pairs (zero, low, is) has =
    subst (λ w. R w y) is (All-contains (R z) (zs ++ ys) y (AllPairs-head R z (zs ++ ys) pairs) (Contains-append_right zs ys y has))
pairs_across R (z ∷ zs) ys x y pairs (suc k, low, is) has =
    let within : k < length zs = omega (arith, low) in
    pairs_across R zs ys x y (AllPairs-tail R z (zs ++ ys) pairs) (k, within, is) has

-- ---- pictures, one after another

module _ {X : Type 0} (f : X → Picture) where
  -- what they list is no 0
  states_of_all : (xs : List X) → All (λ x. IsSparse (f x)) xs → IsPicture (flat_map f xs)
  states_of_all [] sparse = All-nil (λ (e : Point × ℕ). (1 ≤ e.1) × (e.1 ≤ 255))
  states_of_all (x ∷ xs) sparse =
      All-append (λ (e : Point × ℕ). (1 ≤ e.1) × (e.1 ≤ 255)) (f x) (flat_map f xs) (All-head (λ z. IsSparse (f z)) x xs sparse).states
      (states_of_all xs (All-tail (λ z. IsSparse (f z)) x xs sparse))

  -- and lies in the square of a plane
  pub places_of_all : (xs : List X) → All (λ x. IsSparse (f x)) xs → All (λ e. IsInPlane e.0) (flat_map f xs)
  places_of_all [] sparse = All-nil (λ (e : Point × ℕ). IsInPlane e.0)
  places_of_all (x ∷ xs) sparse =
      All-append (λ (e : Point × ℕ). IsInPlane e.0) (f x) (flat_map f xs) (All-head (λ z. IsSparse (f z)) x xs sparse).places
      (places_of_all xs (All-tail (λ z. IsSparse (f z)) x xs sparse))

  -- where no point is listed twice, they are together what they show, and no place is live in two
  IsUnionOf-once : (xs : List X) → All (λ x. IsSparse (f x)) xs → AllPairs (λ p q. p ≢ q) (points (flat_map f xs)) → IsUnionOf (map f xs) (flat_map f xs)
  IsUnionOf-once [] sparse once = record { alone = λ i j d low high. absurd (omega (arith, high)); together = λ x y. refl }
  IsUnionOf-once (x ∷ xs) sparse once =
      let p = f x in
      let rest = flat_map f xs in
      let states = (All-head (λ z. IsSparse (f z)) x xs sparse).states in
      let sparse_rest = All-tail (λ z. IsSparse (f z)) x xs sparse in
      let once_so = subst (AllPairs (λ (q r : Point). q ≢ r)) (map-append (λ (e : Point × ℕ). e.0) p rest) once in
      let later = IsUnionOf-once xs sparse_rest (pairs_behind (λ (q r : Point). q ≢ r) (points p) (points rest) once_so) in
      let disjoint : AreDisjoint (cell p) (cell rest) = λ u v.
      elim (cases_eq (cell p u v) 0) [
        | inl none ↦ inl none
        | inr live ↦ elim (cases_eq (cell rest u v) 0) [
          | inl none ↦ inr none
          | inr live_too ↦
              let at : Point = record { y = v; x = u } in
              absurd (pairs_across (λ (q r : Point). q ≢ r) (points p) (points rest) at at once_so (listed_from_live p at live) (listed_from_live rest at live_too) refl)
        ]
      ] in
      record {
        alone = AllPairs-cons (λ q r. AreDisjoint (cell q) (cell r)) p (map f xs) (λ k d low u v.
            elim (disjoint u v) [
              | inl none ↦ inl none
              | inr none ↦
                  let sum = later.together u v in
                  let part = get_or-le-sum_by (λ (r : Picture). cell r u v) (map f xs) k d low in
                  inr (omega (arith, none, sum, part))
            ]) later.alone;
        together = λ u v.
            let both = cell_of_both p rest u v states (disjoint u v) in
            let sum = later.together u v in
            let more = sum_by-cons (λ (r : Picture). cell r u v) p (map f xs) in
            omega (arith, both, sum, more);
      }

  -- two lists have the same points
  same_members : (p q : Picture) → IsPicture p → IsPicture q → IsSame p q → (at : Point) → is_member is_point (points p) at ≡ is_member is_point (points q) at
  same_members p q one two same at =
      let first = is_member-Decides Decides-is_point (points p) at in
      let second = is_member-Decides Decides-is_point (points q) at in
      elim (cases_Bool (is_member is_point (points p) at)) [
        | inl has ↦ has ∙ sym (second.1 (listed_from_live q at (λ z. live_from_listed p at one (first.0 has) (same at.x at.y ∙ z))))
        | inr hasnt ↦ elim (cases_Bool (is_member is_point (points q) at)) [
          | inr neither ↦ hasnt ∙ sym neither
          | inl has ↦
              first.1 (listed_from_live p at (λ z. live_from_listed q at two (second.0 has) (sym (same at.x at.y) ∙ z))) ∙ sym has
        ]
      ]

  -- where as many cells of a plane are live as they list, no point is listed twice
  pub IsUnionOf-counted : (xs : List X) (whole : Picture) → All (λ x. IsSparse (f x)) xs → IsSparse whole → IsSame whole (flat_map f xs) → length whole ≡ length (flat_map f xs) → IsUnionOf (map f xs) whole
  unfolding is_point
  IsUnionOf-counted xs whole sparse sparse_whole same long =
      let cells = flat_map f xs in
      let distinct = IsDistinct-from_sorted point_cmp (points whole) sparse_whole.rising in
      let laws = eq_by_cmp_equiv point_cmp_total in
      let members = same_members whole cells sparse_whole.states (states_of_all xs sparse) same in
      let count = length-from_keys laws (points whole) (points cells) distinct members in
      let once = IsDistinct-from_count laws (points cells)
      (sym count ∙ length-map whole (λ (e : Point × ℕ). e.0) ∙ long ∙ sym (length-map cells (λ (e : Point × ℕ). e.0))) in
      let union = IsUnionOf-once xs sparse (AllPairs-from_IsDistinct Decides-is_point (points cells) once) in
      record { alone = union.alone; together = λ x y. same x y ∙ union.together x y }
