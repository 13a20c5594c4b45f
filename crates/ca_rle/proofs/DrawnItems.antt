-- Items drawn one after another, from any corner: what the plane shows.
use Rattle.std.proofs.Common.{◌≡◌, ℕ, ◌+◌, ◌≤◌, ◌<◌, ◌≢◌, ℤ, pos, ◌+ℤ◌, ◌≤ℤ◌, ◌<ℤ◌, ◌==◌, ◌^◌, ne_eqb, List, [], ◌∷◌, ◌++◌, ◌⊎◌, inl, inr, refl, sym, ap, subst, ◌∙◌, arith}
use Rattle.std.specs.Prelude.{if◌then◌else◌}
use Rattle.std.specs.List.{AllByRecursion}
use Rattle.std.proofs.lemmas.Bool.{cases_Bool, eqb-false}
use Rattle.std.proofs.lemmas.Int.{ints}
use Rattle.std.proofs.lemmas.List.{append-nil}
use Rattle.std.proofs.lemmas.List.Elements.{All-append, All-nil}
use Rattle.ca_plane.specs.declared.point.Point.{Point}
use Rattle.ca_plane.specs.Prelude.{Picture, IsPicture, cell, IsSame, IsInRange}
use Rattle.ca_plane.proofs.Pictures.{point-same}
use Rattle.ca_rle.specs.declared.{extent.Offset.Offset, item.Item.Item, item.Tag.Tag}
use Rattle.ca_rle.specs.declared.item.Tag.TheVariants.{Cell, RowEnd}
use Rattle.ca_rle.specs.Prelude.{Run, IsEnd, Items, ends_row, tag_state, greatest_state, row_count, columns_of, place_after, item_cells, picture_after, picture_of_items, IsRleWithinRange}
use Rattle.ca_rle.specs.inner.BodyFaults.{bare_file, with_capped_count, IsItemAtFront}
use Rattle.ca_rle.specs.inner.Extent.{IsOffsetOf, point_from, HasRoomRight, cells_from, drawn_over}
use Rattle.ca_rle.proofs.PushedItems.{greatest_state-append, greatest_state-push, row_count-push, columns_of-push, picture_after-push, picture_after-append, Run-push, counts_low}
use Rattle.ca_rle.proofs.DrawnCells.{over_picture}
use Rattle.ca_rle.proofs.MeasuredItems.{IsNextOffset, offset_more}
use Rattle.ca_rle.proofs.Ranges.{all_parts, run_has_room}
use Rattle.ca_rle.proofs.Prefixes.{items_left, items_done, item_state_low}
use Rattle.ca_rle.proofs.Runs.{run_after, run_clear, run_states, cell-after-zero}

-- a place in reading order at or after another
abbrev pub IsAhead : Point → ℤ → ℤ → Type 0
IsAhead at x y = (at.y <ℤ y) ⊎ ((y ≡ at.y) × (at.x ≤ℤ x))

-- the place after an item: further right, or below the corner further down
abbrev pub next_place : Point → Point → Item → Point
next_place corner at i = if ends_row i.tag then record { y = at.y +ℤ pos i.count; x = corner.x } else record { y = at.y; x = at.x +ℤ pos i.count }

pub place_after-push : (corner : Point) (is : List Item) (i : Item) → place_after corner (is ++ i ∷ []) ≡ next_place corner (place_after corner is) i
place_after-push corner is i =
    elim (cases_Bool (ends_row i.tag)) [
      | inl e ↦
          let row : row_count (is ++ i ∷ []) ≡ row_count is + i.count = rw (row_count-push, e) refl in
          let column : columns_of (is ++ i ∷ []) ≡ 0 = rw (columns_of-push, e) refl in
          rw (row, column, e) (point-same _ _ (omega (arith, ints)) (omega (arith, ints)))
      | inr e ↦
          let row : row_count (is ++ i ∷ []) ≡ row_count is = rw (row_count-push, e) (omega arith) in
          let column : columns_of (is ++ i ∷ []) ≡ columns_of is + i.count = rw (columns_of-push, e) refl in
          rw (row, column, e) (point-same _ _ (omega (arith, ints)) (omega (arith, ints)))
    ]

-- an item's cells may stand before a picture that is clear ahead of them, or after it
item_after : (p : Picture) (at : Point) (i : Item) → IsPicture p → ((x y : ℤ) → IsAhead at x y → cell p x y ≡ 0) → IsSame (cells_from at i ++ p) (p ++ cells_from at i)
item_after p at i states ahead x y =
    elim (cases_Bool (tag_state i.tag == 0)) [
      | inl e ↦ rw e (ap (λ q. cell q x y) (sym (append-nil p)))
      | inr e ↦ rw e (run_after p (tag_state i.tag) at i.count states (λ k. ahead (at.x +ℤ pos k) at.y (inr (refl, omega (arith, ints)))) x y)
    ]

-- an item's cells are a picture
item_states : (at : Point) (i : Item) → tag_state i.tag ≤ 255 → IsPicture (cells_from at i)
item_states at i low =
    elim (cases_Bool (tag_state i.tag == 0)) [
      | inl e ↦ rw e (All-nil (λ e. (1 ≤ e.1) × (e.1 ≤ 255)))
      | inr e ↦
          let some = eqb-false (tag_state i.tag) 0 e in
          rw e (run_states (tag_state i.tag) at i.count (omega arith) low)
    ]

-- after an item its own cells end
tag_clear : (corner at : Point) (n : ℕ) (t : Tag) (x y : ℤ) → IsAhead (next_place corner at (record { count = n; tag = t })) x y → cell (cells_from at (record { count = n; tag = t })) x y ≡ 0
tag_clear corner at n RowEnd x y h = refl
tag_clear corner at n (Cell s) x y h =
    elim (cases_Bool (s == 0)) [
      | inl e ↦ rw e refl
      | inr e ↦ rw e (run_clear s at n x y (past h))
    ]
  where
    past : IsAhead (next_place corner at (record { count = n; tag = Cell s })) x y → y ≡ at.y → (at.x +ℤ pos n) ≤ℤ x
    past (inl below) row = absurd (omega (arith, ints))
    past (inr right) row = right.1

-- what is ahead of the place after an item is ahead of the item
tag_ahead : (corner at : Point) (n : ℕ) (t : Tag) (x y : ℤ) → 0 < n → IsAhead (next_place corner at (record { count = n; tag = t })) x y → IsAhead at x y
tag_ahead corner at n (Cell s) x y some (inl below) = inl below
tag_ahead corner at n (Cell s) x y some (inr right) = inr (right.0, omega (arith, ints, right.1))
tag_ahead corner at n RowEnd x y some (inl below) = inl (omega (arith, ints))
tag_ahead corner at n RowEnd x y some (inr right) = inl (omega (arith, ints, right.0))

-- ---- the next item

-- what the next item of a body within range is, and where it stands
pub record IsNext (top : ℕ) (corner : Point) (items : List Item) (at : Offset) (i j : Item) : Type 0 where
  pub same : i ≡ with_capped_count j
  pub some : 0 < j.count
  pub state : tag_state j.tag ≤ 255
  pub most : tag_state i.tag ≤ top
  pub room : tag_state i.tag ≢ 0 → HasRoomRight (point_from corner at) i.count
  pub place : tag_state i.tag ≢ 0 → point_from corner at ≡ place_after corner items
  pub cells : cells_from (point_from corner at) i ≡ item_cells corner items j

-- a kept offset is the offset, where the place is in range
pub offset_is : (corner : Point) (items : List Item) (at : Offset) → IsInRange corner → IsOffsetOf items at → IsInRange (place_after corner items) → point_from corner at ≡ place_after corner items
offset_is corner items at start offset range =
    point-same _ _ (omega (arith, ints, start.2, offset.rows, range.3)) (omega (arith, ints, start.0, offset.columns, range.1))

next_cells : (p q : Point) (m n : ℕ) (t : Tag) → (tag_state t ≢ 0 → p ≡ q) → m ≡ n → cells_from p (record { count = m; tag = t }) ≡ cells_from q (record { count = n; tag = t })
next_cells p q m n t place count =
    elim (cases_Bool (tag_state t == 0)) [
      | inl e ↦ rw e refl
      | inr e ↦ rw (place (eqb-false (tag_state t) 0 e), count) refl
    ]

-- the next item
pub next_is : (most : ℕ) (corner : Point) (bytes rest more : List ℕ) (at : Offset) (all items : List Item) (i : Item) → Items bytes all → IsRleWithinRange (bare_file corner all) → greatest_state all ≤ most → Run bytes items rest → IsOffsetOf items at
    → (item : IsItemAtFront rest i more) → IsNext most corner items at i item.0
next_is most corner bytes rest more at all items i spelled range low run offset (j, item, same) =
    let left = items_left bytes more all (items ++ j ∷ []) spelled (Run-push bytes items j rest more run item) in
    let counts = all_parts (λ i. i.count ≤ 2 ^ 62) (items ++ j ∷ []) left.0 (subst (λ l. AllByRecursion (λ i. i.count ≤ 2 ^ 62) l) left.2 range.counts) in
    let count : j.count ≤ 2 ^ 62 = (all_parts (λ i. i.count ≤ 2 ^ 62) items (j ∷ []) counts.0).1.0 in
    let shown : picture_of_items corner all ≡ (picture_of_items corner items ++ item_cells corner items j) ++ picture_after corner (items ++ j ∷ []) left.0 =
    ap (picture_of_items corner) left.2 ∙ picture_after-append corner [] (items ++ j ∷ []) left.0 ∙ ap (λ p. p ++ picture_after corner (items ++ j ∷ []) left.0) (picture_after-push corner [] items j)
    in
    let cells = all_parts (λ e. IsInRange e.0) (picture_of_items corner items ++ item_cells corner items j) _ (subst (λ p. AllByRecursion (λ e. IsInRange e.0) p) shown range.cells) in
    let here : AllByRecursion (λ e. IsInRange e.0) (item_cells corner items j) = (all_parts (λ e. IsInRange e.0) (picture_of_items corner items) (item_cells corner items j) cells.0).1 in
    let some : 0 < j.count = (counts_low rest (j ∷ []) more item).0 in
    let exact : i ≡ j = same ∙ kept_is j count in
    let live : tag_state j.tag ≢ 0 → HasRoomRight (place_after corner items) j.count = λ ne. run_has_room (tag_state j.tag) (place_after corner items) j.count some (rw (ne_eqb (tag_state j.tag) 0 ne) at here) in
    let place : tag_state j.tag ≢ 0 → point_from corner at ≡ place_after corner items = λ ne. offset_is corner items at range.corner offset (live ne).0 in
    record {
      same = same;
      some = some;
      state = item_state_low rest j more item;
      most = rw exact (
          let whole = ap greatest_state left.2 in
          let parts = greatest_state-append (items ++ j ∷ []) left.0 in
          let last = greatest_state-push items j in
          omega (arith, low, whole, parts, last)
          );
      room = rw exact (λ ne. subst (λ p. HasRoomRight p j.count) (sym (place ne)) (live ne));
      place = rw exact place;
      cells = rw exact (next_cells (point_from corner at) (place_after corner items) j.count j.count j.tag place refl);
    }
  where
    kept_is : (j : Item) → j.count ≤ 2 ^ 62 → with_capped_count j ≡ j
    kept_is j low = ap (λ (m : ℕ). let made : Item = record { count = m; tag = j.tag } in made) (omega (arith, low))

-- ---- all items

-- these items were read and drawn, and the next begins at an offset
pub record IsDrawn (corner : Point) (bytes after : List ℕ) (at : Offset) (shown : ℤ → ℤ → ℕ) (items : List Item) : Type 0 where
  pub run : Run bytes items after
  pub offset : IsOffsetOf items at
  pub cells : (x y : ℤ) → shown x y ≡ cell (picture_of_items corner items) x y
  pub states : IsPicture (picture_of_items corner items)
  pub ahead : (x y : ℤ) → IsAhead (place_after corner items) x y → cell (picture_of_items corner items) x y ≡ 0

-- one more item
pub drawn_more : (most : ℕ) (corner : Point) (bytes rest more : List ℕ) (at next : Offset) (old new : ℤ → ℤ → ℕ) (items : List Item) (i : Item) → IsDrawn corner bytes rest at old items → (item : IsItemAtFront rest i more)
    → IsNext most corner items at i item.0 → IsNextOffset i at next → ((x y : ℤ) → new x y ≡ drawn_over (cells_from (point_from corner at) i) old x y) → IsDrawn corner bytes more next new (items ++ item.0 ∷ [])
drawn_more most corner bytes rest more at next below new items i d (j, item, same) n o drawn =
    let old = picture_of_items corner items in
    let here = item_cells corner items j in
    let whole : picture_of_items corner (items ++ j ∷ []) ≡ old ++ here = picture_after-push corner [] items j in
    let place = place_after-push corner items j in
    record {
      run = Run-push bytes items j rest more d.run item;
      offset = offset_more items j at next d.offset (subst (λ i. IsNextOffset i at next) same o);
      cells = λ x y.
          drawn x y ∙ ap (λ c. drawn_over c below x y) n.cells ∙ over_picture here below old d.cells x y ∙ item_after old (place_after corner items) j d.states d.ahead x y ∙ ap (λ p. cell p x y) (sym whole);
      states = rw whole (All-append (λ e. (1 ≤ e.1) × (e.1 ≤ 255)) old here d.states (item_states (place_after corner items) j n.state));
      ahead = λ x y h.
          let after = subst (λ p. IsAhead p x y) place h in
          ap (λ p. cell p x y) whole
          ∙ cell-after-zero old here x y d.states (d.ahead x y (tag_ahead corner (place_after corner items) j.count j.tag x y n.some after))
          ∙ tag_clear corner (place_after corner items) j.count j.tag x y after;
    }

-- drawn to the end, the plane shows the picture of all the body's items
pub drawn_all : (corner : Point) (bytes rest : List ℕ) (at : Offset) (shown : ℤ → ℤ → ℕ) (items all : List Item) → IsDrawn corner bytes rest at shown items → IsEnd rest → Items bytes all
    → ((x y : ℤ) → shown x y ≡ cell (picture_of_items corner all) x y) × IsPicture (picture_of_items corner all)
drawn_all corner bytes rest at shown items all d end spelled =
    subst (λ l. ((x y : ℤ) → shown x y ≡ cell (picture_of_items corner l) x y) × IsPicture (picture_of_items corner l)) (sym (items_done bytes rest all items spelled d.run end)) (d.cells, d.states)
