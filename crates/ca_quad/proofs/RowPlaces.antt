-- Places of a list of cells, and the rows that hold them.
use Rattle.std.proofs.Common.{◌≡◌, ℕ, ◌+◌, ◌<◌, ◌≤◌, ◌⊎◌, inl, inr, Some, ℤ, pos, ◌<ℤ◌, ◌≤ℤ◌, List, [], ◌∷◌, ◌++◌, drop, get_or, length, map, sym, ap, subst, ◌∙◌, arith, Less}
use Rattle.std.specs.List.{All, slice_get}
use Rattle.std.proofs.lemmas.Bool.{cases_eq}
use Rattle.std.proofs.lemmas.Int.{ints}
use Rattle.std.proofs.lemmas.List.{get_or-map, length-map, drop_more, drop_all}
use Rattle.std.proofs.lemmas.List.Elements.{All-append, All-nil, All-cons, All-get_or}
use Rattle.std.proofs.lemmas.Map.Keys.{Less-from_sorted}
use Rattle.std.proofs.lemmas.Option.{get_or_from_slice_get, slice_get_within}
use Rattle.ca_plane.specs.declared.point.Point.{Point}
use Rattle.ca_plane.specs.Prelude.{Picture, point_cmp, IsSparse}
use Rattle.ca_quad.specs.declared.{store.rows.Row.Row, tree.Spot.Spot}
use Rattle.ca_quad.specs.inner.Rows.{point_at, ComesBefore, IsInRow, IsPictureRow, AreRows, HaveRowAt, IsPartOfRows, IsNorth, IsSouth}

-- ---- the order of the list

earlier_from_Less : (p q : Point) → point_cmp p q ≡ Less → (p.y <ℤ q.y) ⊎ ((p.y ≡ q.y) × (p.x <ℤ q.x))
earlier_from_Less p q less = grind (arith, ints)

module _ (p : Picture) (sparse : IsSparse p) where
  rises : (i j : ℕ) → i < j → j < length p → point_cmp (point_at p i) (point_at p j) ≡ Less
  rises i j low high =
      let origin : Point = record { y = pos 0; x = pos 0 } in
      let d : Point × ℕ = (origin, 0) in
      let one : get_or (map (λ (e : Point × ℕ). e.0) p) i origin ≡ (get_or p i d).0 = get_or-map (λ (e : Point × ℕ). e.0) p i d origin (omega arith) in
      let two : get_or (map (λ (e : Point × ℕ). e.0) p) j origin ≡ (get_or p j d).0 = get_or-map (λ (e : Point × ℕ). e.0) p j d origin high in
      rw (← one, ← two) (Less-from_sorted point_cmp (map (λ (e : Point × ℕ). e.0) p) i j origin sparse.rising low (omega (arith, length-map p (λ (e : Point × ℕ). e.0))))

  -- what comes before a later cell's spot comes before an earlier one's
  pub comes_earlier : (at : Spot) (i j : ℕ) → i ≤ j → j < length p → ComesBefore (point_at p j) at → ComesBefore (point_at p i) at
  comes_earlier at i j le high before =
      elim (cases_eq i j) [
        | inl e ↦ subst (λ n. ComesBefore (point_at p n) at) (sym e) before
        | inr other ↦ elim (earlier_from_Less (point_at p i) (point_at p j) (rises i j (omega arith) high)) [
          | inl higher ↦ elim before [ inl b ↦ inl (omega (arith, ints)) | inr b ↦ inl (omega (arith, ints)) ]
          | inr along ↦ elim before [ inl b ↦ inl (omega (arith, ints)) | inr b ↦ inr (omega (arith, ints), omega (arith, ints)) ]
        ]
      ]

  -- a later cell has no lesser y
  pub y_rises : (i j : ℕ) → i ≤ j → j < length p → (point_at p i).y ≤ℤ (point_at p j).y
  y_rises i j le high =
      elim (cases_eq i j) [
        | inl e ↦ subst (λ n. (point_at p i).y ≤ℤ (point_at p n).y) e (omega (arith, ints))
        | inr other ↦ elim (earlier_from_Less (point_at p i) (point_at p j) (rises i j (omega arith) high)) [
          | inl higher ↦ omega (arith, ints)
          | inr along ↦ omega (arith, ints)
        ]
      ]

-- ---- rows in a list of rows

HaveRowAt-left : (rs ts : List Row) (i : ℕ) → HaveRowAt rs i → HaveRowAt (rs ++ ts) i
HaveRowAt-left [] ts i h = absurd h
HaveRowAt-left (r ∷ rs) ts i (inl h) = inl h
HaveRowAt-left (r ∷ rs) ts i (inr h) = inr (HaveRowAt-left rs ts i h)

HaveRowAt-last : (rs : List Row) (r : Row) (i : ℕ) → IsInRow r i → HaveRowAt (rs ++ r ∷ []) i
HaveRowAt-last [] r i h = inl h
HaveRowAt-last (q ∷ rs) r i h = inr (HaveRowAt-last rs r i h)

-- a list with one row more
module _ (rs new : List Row) (r : Row) (e : new ≡ rs ++ r ∷ []) where
  pub HaveRowAt-push : (i : ℕ) → HaveRowAt rs i ⊎ IsInRow r i → HaveRowAt new i
  HaveRowAt-push i (inl h) = rw e (HaveRowAt-left rs (r ∷ []) i h)
  HaveRowAt-push i (inr h) = rw e (HaveRowAt-last rs r i h)

  pub AreRows-push : (p : Picture) → AreRows p rs → IsPictureRow p r → AreRows p new
  AreRows-push p are is = rw e (All-append (IsPictureRow p) rs (r ∷ []) are (All-cons (IsPictureRow p) r [] is (All-nil _)))

-- the rest of a list, and its first element
pub rest_at : {X : Type 0} (xs : List X) (k : ℕ) (x : X) → slice_get xs k ≡ Some x → drop k xs ≡ x ∷ drop (k + 1) xs
rest_at xs k x at = drop_more xs k x (slice_get_within xs k x at) ∙ ap (λ e. e ∷ drop (k + 1) xs) (get_or_from_slice_get xs k x x at)

-- what holds of all elements holds of one
pub all_at : {X : Type 0} (P : X → Type 0) (xs : List X) (k : ℕ) (x : X) → slice_get xs k ≡ Some x → All P xs → P x
all_at P xs k x at all = subst P (get_or_from_slice_get xs k x x at) (All-get_or P xs k x (slice_get_within xs k x at) all)

-- ---- parts that are collected

-- the part has the passing cells of the rows, but for those that are still to come
pub record IsSoFar (p : Picture) (rows : List Row) (passes : Point → Type 0) (part : List Row) (k : ℕ) : Type 0 where
  pub are : AreRows p part
  pub held : (i : ℕ) → HaveRowAt rows i → passes (point_at p i) → HaveRowAt part i ⊎ HaveRowAt (drop k rows) i

module _ (p : Picture) (rows : List Row) (passes : Point → Type 0) where
  pub part_last : (part : List Row) (k : ℕ) → length rows ≤ k → IsSoFar p rows passes part k → IsPartOfRows p rows passes part
  part_last part k past so = record {
    are = so.are;
    held = λ i h t. elim (so.held i h t) [ inl g ↦ g | inr g ↦ absurd (subst (λ rs. HaveRowAt rs i) (drop_all k rows past) g) ];
  }

  -- a row is looked at
  pub part_next : (part new : List Row) (k : ℕ) (r : Row) → slice_get rows k ≡ Some r → IsSoFar p rows passes part k → AreRows p new → ((i : ℕ) → HaveRowAt part i → HaveRowAt new i)
      → ((i : ℕ) → IsInRow r i → passes (point_at p i) → HaveRowAt new i) → IsSoFar p rows passes new (k + 1)
  part_next part new k r at so are old here = record {
    are = are;
    held = λ i h t. elim (so.held i h t) [
      | inl g ↦ inl (old i g)
      | inr g ↦ elim (subst (λ rs. HaveRowAt rs i) (rest_at rows k r at) g) [ inl j ↦ inl (here i j t) | inr j ↦ inr j ]
    ];
  }

-- ---- rows of a list

module _ (p : Picture) (sparse : IsSparse p) where
  -- the places from `first` up to `row.end` are a row, where their points come before `at`, a spot with the same y
  pub row_made : (first : ℕ) (at : Spot) (row : Row) → at.y ≡ (point_at p first).y → row.y ≡ (point_at p first).y → row.first ≡ first → first < row.end → row.end ≤ length p
      → ((i : ℕ) → first + 1 ≤ i → i < row.end → ComesBefore (point_at p i) at) → IsPictureRow p row
  row_made first at row ey ry e some range before = record {
    order = omega arith;
    range = range;
    same = λ i h. same i (omega (arith, h.from)) h.below;
  }
    where
      same : (i : ℕ) → first ≤ i → i < row.end → (point_at p i).y ≡ row.y
      same i low high =
          elim (cases_eq i first) [
            | inl one ↦ ap (λ n. (point_at p n).y) one ∙ sym ry
            | inr other ↦
                let up = y_rises p sparse first i low (omega (arith, range)) in
                elim (before i (omega arith) high) [ inl b ↦ absurd (omega (arith, ints)) | inr b ↦ b.0 ∙ (ey ∙ sym ry) ]
          ]

  -- some of its places
  pub row_cut : (row new : Row) → IsPictureRow p row → new.y ≡ row.y → row.first ≤ new.first → new.first ≤ new.end → new.end ≤ row.end → IsPictureRow p new
  row_cut row new is ey low order high = record {
    order = order;
    range = omega (arith, is.range);
    same = λ i h. is.same i (record { from = omega (arith, h.from); below = omega (arith, h.below) }) ∙ sym ey;
  }

-- a row goes to the part that it belongs to, and the other part stays
module _ (p : Picture) (rows : List Row) (are : AreRows p rows) (k : ℕ) (r : Row) (at : slice_get rows k ≡ Some r) (y : ℤ) where
  is : IsPictureRow p r
  is = all_at (IsPictureRow p) rows k r at are

  module _ (north south new_north new_south more : List Row) (n : IsSoFar p rows (IsNorth y) north k) (s : IsSoFar p rows (IsSouth y) south k) where
    pub north_next : r.y <ℤ y → new_north ≡ more → new_south ≡ south → more ≡ north ++ r ∷ [] → IsSoFar p rows (IsNorth y) new_north (k + 1) × IsSoFar p rows (IsSouth y) new_south (k + 1)
    north_next low e f g =
        let items : new_north ≡ north ++ r ∷ [] = e ∙ g in
        let more_held = HaveRowAt-push north new_north r items in (
          part_next p rows (IsNorth y) north new_north k r at n (AreRows-push north new_north r items p n.are is) (λ i h. more_held i (inl h)) (λ i h t. more_held i (inr h)),
          subst (λ part. IsSoFar p rows (IsSouth y) part (k + 1)) (sym f)
              (part_next p rows (IsSouth y) south south k r at s s.are (λ i h. h) (λ i h t. let same = is.same i h in absurd (omega (arith, ints)))),
        )

    pub south_next : y ≤ℤ r.y → new_north ≡ north → new_south ≡ more → more ≡ south ++ r ∷ [] → IsSoFar p rows (IsNorth y) new_north (k + 1) × IsSoFar p rows (IsSouth y) new_south (k + 1)
    south_next high e f g =
        let items : new_south ≡ south ++ r ∷ [] = f ∙ g in
        let more_held = HaveRowAt-push south new_south r items in (
          subst (λ part. IsSoFar p rows (IsNorth y) part (k + 1)) (sym e)
              (part_next p rows (IsNorth y) north north k r at n n.are (λ i h. h) (λ i h t. let same = is.same i h in absurd (omega (arith, ints)))),
          part_next p rows (IsSouth y) south new_south k r at s (AreRows-push south new_south r items p s.are is) (λ i h. more_held i (inl h)) (λ i h t. more_held i (inr h)),
        )
