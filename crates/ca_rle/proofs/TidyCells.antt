-- What a list of items shows from a place onwards, and what a tidy list shows there.
use Rattle.std.proofs.Common.{◌≡◌, ◌≢◌, ℕ, zero, suc, ◌+◌, ◌-◌, ◌<◌, ◌==◌, ℤ, pos, ◌+ℤ◌, ◌≤ℤ◌, ◌<ℤ◌, ◌&&◌, true, ◌⊎◌, inl, inr, List, [], ◌∷◌, ◌++◌, map, refl, sym, ap, ◌∙◌, arith}
use Rattle.std.specs.Prelude.{if◌then◌else◌}
use Rattle.std.specs.Ordering.{int_eq}
use Rattle.std.specs.List.{range_with_len, AllByRecursion}
use Rattle.std.proofs.lemmas.Bool.{cases_Bool, cases_eq, and_parts, eqb-true}
use Rattle.std.proofs.lemmas.Bool.Decides.{Decides-int_eq}
use Rattle.std.proofs.lemmas.Int.{ints}
use Rattle.ca_plane.specs.declared.point.Point.{Point}
use Rattle.ca_plane.specs.Prelude.{Picture, cell}
use Rattle.ca_plane.proofs.Pictures.{point-same}
use Rattle.ca_rle.specs.declared.item.{Item.Item, Tag.Tag}
use Rattle.ca_rle.specs.declared.item.Tag.TheVariants.{Cell, RowEnd}
use Rattle.ca_rle.specs.Prelude.{ends_row, tag_state, row_count, columns_of, run_of, place_after, item_cells, picture_after, AreTidy}
use Rattle.ca_rle.proofs.PushedItems.{row_count-push, columns_of-push}

-- ---- a run of cells before a picture

abbrev run_cell : ℕ → Point → ℕ → Point × ℕ
run_cell state at k = (record { y = at.y; x = at.x +ℤ pos k }, state)

abbrev run_from : ℕ → Point → ℕ → ℕ → Picture
run_from state at a n = map (run_cell state at) (range_with_len a n)

is_there : (at : Point) (x y column : ℤ) → y ≡ at.y → x ≡ column → (int_eq y at.y && int_eq x column) ≡ true
is_there at x y column row col = rw ((Decides-int_eq y at.y).1 row, (Decides-int_eq x column).1 col) refl

-- a place in the run has its state
run_in : (state : ℕ) (at : Point) (a n k : ℕ) (q : Picture) (x y : ℤ) → k < n → y ≡ at.y → x ≡ at.x +ℤ pos (a + k) → cell (run_from state at a n ++ q) x y ≡ state
run_in state at a zero k q x y l row col = absurd (omega arith)
run_in state at a (suc n) zero q x y l row col = rw (is_there at x y (at.x +ℤ pos a) row (omega (arith, ints))) refl
run_in state at a (suc n) (suc k) q x y l row col =
    elim (cases_Bool (int_eq y at.y && int_eq x (at.x +ℤ pos a))) [
      | inl t ↦ rw t refl
      | inr t ↦ rw t (run_in state at (a + 1) n k q x y (omega arith) row (omega (arith, ints)))
    ]

-- a place that is none of the run's is as without it
run_out : (state : ℕ) (at : Point) (a n : ℕ) (q : Picture) (x y : ℤ) → ((k : ℕ) → k < n → y ≡ at.y → x ≡ at.x +ℤ pos (a + k) → ⊥) → cell (run_from state at a n ++ q) x y ≡ cell q x y
run_out state at a zero q x y h = refl
run_out state at a (suc n) q x y h =
    elim (cases_Bool (int_eq y at.y && int_eq x (at.x +ℤ pos a))) [
      | inl t ↦
          let parts = and_parts (int_eq y at.y) (int_eq x (at.x +ℤ pos a)) t in
          let col = (Decides-int_eq x (at.x +ℤ pos a)).0 parts.1 in
          absurd (h 0 (omega arith) ((Decides-int_eq y at.y).0 parts.0) (omega (arith, ints)))
      | inr t ↦ rw t (run_out state at (a + 1) n q x y (λ k l row col. h (suc k) (omega arith) row (omega (arith, ints))))
    ]

-- what is live without live cells before it is live with them
pub live_after : (p q : Picture) (x y : ℤ) → AllByRecursion (λ e. e.1 ≢ 0) p → cell q x y ≢ 0 → cell (p ++ q) x y ≢ 0
live_after [] q x y all live = live
live_after (e ∷ es) q x y (some, others) live =
    elim (cases_Bool (int_eq y e.0.y && int_eq x e.0.x)) [
      | inl t ↦ rw t some
      | inr t ↦ rw t (live_after es q x y others live)
    ]

-- ---- items from a place onwards

-- the cells of an item that begins at a place
abbrev pub cells_at : Point → Item → Picture
cells_at at i = if tag_state i.tag == 0 then [] else run_of (tag_state i.tag) at i.count

-- the place after an item: further right, or at the left end of a row further down
abbrev pub next : ℤ → Point → Item → Point
next left at i = if ends_row i.tag then record { y = at.y +ℤ pos i.count; x = left } else record { y = at.y; x = at.x +ℤ pos i.count }

-- the cells of items of which the first begins at a place, in rows that begin at this column
abbrev pub drawn : ℤ → Point → List Item → Picture
drawn left at [] = []
drawn left at (i ∷ is) = cells_at at i ++ drawn left (next left at i) is

place_next : (corner : Point) (before : List Item) (n : ℕ) (t : Tag) → place_after corner (before ++ record { count = n; tag = t } ∷ []) ≡ next corner.x (place_after corner before) (record { count = n; tag = t })
place_next corner before n (Cell s) =
    let i : Item = record { count = n; tag = Cell s } in
    let rows : row_count (before ++ i ∷ []) ≡ row_count before + 0 = row_count-push before i in
    let columns : columns_of (before ++ i ∷ []) ≡ columns_of before + n = columns_of-push before i in
    point-same _ _ (omega (arith, ints)) (omega (arith, ints))
place_next corner before n RowEnd =
    let i : Item = record { count = n; tag = RowEnd } in
    let rows : row_count (before ++ i ∷ []) ≡ row_count before + n = row_count-push before i in
    let columns : columns_of (before ++ i ∷ []) ≡ 0 = columns_of-push before i in
    point-same _ _ (omega (arith, ints)) (omega (arith, ints))

drawn_after : (corner : Point) (before is : List Item) → picture_after corner before is ≡ drawn corner.x (place_after corner before) is
drawn_after corner before [] = refl
drawn_after corner before (i ∷ is) = ap (λ p. item_cells corner before i ++ p) (drawn_after corner (before ++ i ∷ []) is ∙ ap (λ at. drawn corner.x at is) (place_next corner before i.count i.tag))

-- the picture of items is what they show from the corner onwards
pub picture_drawn : (corner : Point) (is : List Item) → picture_after corner [] is ≡ drawn corner.x corner is
picture_drawn corner is = drawn_after corner [] is ∙ ap (λ at. drawn corner.x at is) (point-same (place_after corner []) corner (omega (arith, ints)) (omega (arith, ints)))

-- a place that is none of an item's
pub item_out : (at : Point) (i : Item) (q : Picture) (x y : ℤ) → ((k : ℕ) → k < i.count → y ≡ at.y → x ≡ at.x +ℤ pos k → ⊥) → cell (cells_at at i ++ q) x y ≡ cell q x y
item_out at i q x y h =
    elim (cases_Bool (tag_state i.tag == 0)) [
      | inl e ↦ rw e refl
      | inr e ↦ rw e (run_out (tag_state i.tag) at 0 i.count q x y (λ k l row col. h k l row (omega (arith, ints))))
    ]

-- ---- tidy lists

-- before a place in reading order
abbrev IsBefore : Point → ℤ → ℤ → Type 0
IsBefore at x y = (y <ℤ at.y) ⊎ ((y ≡ at.y) × (x <ℤ at.x))

-- at a place in reading order, or after it
abbrev pub IsAhead : Point → ℤ → ℤ → Type 0
IsAhead at x y = (at.y <ℤ y) ⊎ ((y ≡ at.y) × (at.x ≤ℤ x))

pub tidy_counts : (i : Item) (is : List Item) → AreTidy (i ∷ is) → 0 < i.count
tidy_counts i [] t = t.0
tidy_counts i (j ∷ js) t = t.0

pub tidy_tail : (i : Item) (is : List Item) → AreTidy (i ∷ is) → AreTidy is
tidy_tail i [] t = tt
tidy_tail i (j ∷ js) t = t.3

before_next : (left : ℤ) (at : Point) (n : ℕ) (t : Tag) (x y : ℤ) → 0 < n → IsBefore at x y → IsBefore (next left at (record { count = n; tag = t })) x y
before_next left at n (Cell s) x y low (inl above) = inl above
before_next left at n (Cell s) x y low (inr here) = inr (here.0, omega (arith, ints, here.1))
before_next left at n RowEnd x y low (inl above) = inl (omega (arith, ints))
before_next left at n RowEnd x y low (inr here) = inl (omega (arith, ints, here.0))

none_of_item : (at : Point) (x y : ℤ) (k : ℕ) → IsBefore at x y → y ≡ at.y → x ≡ at.x +ℤ pos k → ⊥
none_of_item at x y k (inl above) row col = omega (arith, ints)
none_of_item at x y k (inr here) row col = omega (arith, ints, here.1)

-- nothing is shown before the place
pub clear : (left : ℤ) (at : Point) (is : List Item) (x y : ℤ) → AreTidy is → IsBefore at x y → cell (drawn left at is) x y ≡ 0
clear left at [] x y tidy before = refl
clear left at (i ∷ is) x y tidy before =
    item_out at i (drawn left (next left at i) is) x y (λ k l row col. none_of_item at x y k before row col)
    ∙ clear left (next left at i) is x y (tidy_tail i is tidy) (before_next left at i.count i.tag x y (tidy_counts i is tidy) before)

in_item : (left : ℤ) (at : Point) (n : ℕ) (t : Tag) (k : ℕ) (x y : ℤ) → k < n → y ≡ at.y → x ≡ at.x +ℤ pos k → IsBefore (next left at (record { count = n; tag = t })) x y
in_item left at n (Cell s) k x y l row col = inr (row, omega (arith, ints))
in_item left at n RowEnd k x y l row col = inl (omega (arith, ints))

-- the first item's places have its state
pub within : (left : ℤ) (at : Point) (i : Item) (is : List Item) (k : ℕ) (x y : ℤ) → AreTidy (i ∷ is) → k < i.count → y ≡ at.y → x ≡ at.x +ℤ pos k → cell (drawn left at (i ∷ is)) x y ≡ tag_state i.tag
within left at i is k x y tidy l row col =
    elim (cases_Bool (tag_state i.tag == 0)) [
      | inl e ↦ rw e (clear left (next left at i) is x y (tidy_tail i is tidy) (in_item left at i.count i.tag k x y l row col) ∙ sym (eqb-true (tag_state i.tag) 0 e))
      | inr e ↦ rw e (run_in (tag_state i.tag) at 0 i.count k _ x y l row (omega (arith, ints)))
    ]

other_state : (s : ℕ) (t : Tag) → Cell s ≢ t → (Cell s ≡ Cell 0 → t ≢ RowEnd) → tag_state t ≢ s
other_state s (Cell u) other dead e = other (ap Cell (sym e))
other_state s RowEnd other dead e = dead (ap Cell (sym e)) refl

-- the place after the cells of the first item has another state
pub after : (left : ℤ) (at : Point) (n s : ℕ) (is : List Item) (x y : ℤ) → AreTidy (record { count = n; tag = Cell s } ∷ is) → y ≡ at.y → x ≡ at.x +ℤ pos n
    → cell (drawn left at (record { count = n; tag = Cell s } ∷ is)) x y ≢ s
after left at n s [] x y tidy row col e =
    let none = item_out at (record { count = n; tag = Cell s }) [] x y (λ k l _ here. omega (arith, ints)) in
    omega (arith, none, e, tidy.1)
after left at n s (j ∷ js) x y tidy row col e =
    let i : Item = record { count = n; tag = Cell s } in
    let later = item_out at i (drawn left (next left at i) (j ∷ js)) x y (λ k l _ here. omega (arith, ints)) in
    let first = within left (next left at i) j js 0 x y tidy.3 (tidy_counts j js tidy.3) row (omega (arith, ints)) in
    other_state s j.tag tidy.1 tidy.2 (sym first ∙ sym later ∙ e)

-- how far the first item leads, up to a live cell
abbrev Reaches : Point → ℕ → Tag → ℤ → ℤ → Type 0
Reaches at n (Cell s) x y = (y ≡ at.y) × (at.x ≤ℤ x) × ((at.x +ℤ pos n) ≤ℤ (x +ℤ pos 1))
Reaches at n RowEnd x y = y ≡ at.y +ℤ pos n

-- a live cell that the first item reaches
abbrev ReachesLive : ℤ → Point → ℕ → Tag → List Item → Type 0
ReachesLive left at n t is = (x : ℤ) × (y : ℤ) × Reaches at n t x y × (cell (drawn left at (record { count = n; tag = t } ∷ is)) x y ≢ 0)

row_live : (left : ℤ) (at : Point) (n s : ℕ) (is : List Item) → AreTidy (record { count = n; tag = Cell s } ∷ is) → ReachesLive left at n (Cell s) is
row_live left at n s is tidy =
    elim (cases_eq s 0) [
      | inl e ↦ (at.x +ℤ pos n, at.y, (refl, omega (arith, ints), omega (arith, ints)), λ z. after left at n s is _ _ tidy refl refl (z ∙ sym e))
      | inr h ↦
          let low = tidy_counts (record { count = n; tag = Cell s }) is tidy in (
            at.x +ℤ pos (n - 1),
            at.y,
            (refl, omega (arith, ints), omega (arith, ints)),
            λ z. h (sym (within left at (record { count = n; tag = Cell s }) is (n - 1) _ _ tidy (omega arith) refl refl) ∙ z),
          )
    ]

after_row_end : (left : ℤ) (at : Point) (n m : ℕ) (t : Tag) (is : List Item) → AreTidy (record { count = n; tag = RowEnd } ∷ record { count = m; tag = t } ∷ is)
    → ReachesLive left at n RowEnd (record { count = m; tag = t } ∷ is)
after_row_end left at n m RowEnd is tidy = absurd (tidy.1 refl)
after_row_end left at n m (Cell s) is tidy =
    let r = row_live left (record { y = at.y +ℤ pos n; x = left }) m s is tidy.3 in
    (r.0, r.1, r.2.0, r.3)

pub reach : (left : ℤ) (at : Point) (n : ℕ) (t : Tag) (is : List Item) → AreTidy (record { count = n; tag = t } ∷ is) → ReachesLive left at n t is
reach left at n (Cell s) is tidy = row_live left at n s is tidy
reach left at n RowEnd [] tidy = absurd (omega (arith, tidy.1))
reach left at n RowEnd (j ∷ js) tidy = after_row_end left at n j.count j.tag js tidy
