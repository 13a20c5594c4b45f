-- Items are in range just where their extent is.
use Rattle.std.proofs.Common.{◌≡◌, ℕ, zero, suc, ◌+◌, ◌-◌, ◌<◌, ◌≤◌, ◌^◌, max, ℤ, pos, neg_ℤ, ◌+ℤ◌, ◌≤ℤ◌, Bool, true, false, cond, List, [], ◌∷◌, ◌++◌, length, map, ◌==◌, inl, inr, refl, sym, subst, length-append, arith}
use Rattle.std.specs.List.{AllByRecursion, range_with_len}
use Rattle.std.proofs.lemmas.Bool.{cases_eq}
use Rattle.std.proofs.lemmas.List.Sums.{sum_by-cons}
use Rattle.std.proofs.lemmas.Int.{ints}
use Rattle.ca_plane.specs.declared.point.Point.{Point}
use Rattle.ca_rle.specs.declared.{item.Item.Item, extent.Extent.Extent}
use Rattle.ca_rle.specs.Prelude.{tag_state, row_count, columns_of, run_of, place_after, item_cells, picture_after, IsRleWithinRange}
use Rattle.ca_plane.specs.Prelude.{IsInRange, nearest_u64}
use Rattle.ca_rle.specs.inner.BodyFaults.{bare_file}
use Rattle.ca_rle.specs.inner.Extent.{longest_of, live_count_of_item, live_count_of_items, columns_to, rows_to, right_after, bottom_after, IsItemsExtent, IsExtentInRange, HasRoomRight}
use Rattle.ca_rle.proofs.CellRuns.{all_run, length_run}
use Rattle.ca_plane.proofs.Elements.{all_append}

-- ---- counts

-- each count is at most the greatest
pub counts_from : (n : ℕ) (is : List Item) → longest_of is ≤ n → AllByRecursion (λ i. i.count ≤ n) is
counts_from n [] h = tt
counts_from n (i ∷ is) h = (omega (arith, h), counts_from n is (omega (arith, h)))

-- and the greatest is one of them
longest_from : (n : ℕ) (is : List Item) → AllByRecursion (λ i. i.count ≤ n) is → longest_of is ≤ n
longest_from n [] h = omega arith
longest_from n (i ∷ is) (h, hs) = let later = longest_from n is hs in omega (arith, h, later)

-- ---- cells

-- what holds of both parts of a list
pub all_parts : {X : Type 0} (P : X → Type 0) (xs ys : List X) → AllByRecursion P (xs ++ ys) → AllByRecursion P xs × AllByRecursion P ys
all_parts P [] ys h = (tt, h)
all_parts P (x ∷ xs) ys (h, hs) = let later = all_parts P xs ys hs in ((h, later.0), later.1)

-- what holds of each element of a run holds at each place of it
at_run : {X : Type 0} (P : X → Type 0) (f : ℕ → X) (a n k : ℕ) → a ≤ k → k < a + n → AllByRecursion P (map f (range_with_len a n)) → P (f k)
at_run P f a zero k low high all = absurd (omega arith)
at_run P f a (suc n) k low high (here, later) =
    elim (cases_eq k a) [
      | inl e ↦ subst (λ m. P (f m)) (sym e) here
      | inr ne ↦ at_run P f (a + 1) n k (omega arith) (omega arith) later
    ]

-- a run that has room is in range
run_in_range : (state : ℕ) (at : Point) (n : ℕ) → HasRoomRight at n → AllByRecursion (λ e. IsInRange e.0) (run_of state at n)
run_in_range state at n (start, room) =
    all_run (λ e. IsInRange e.0) _ 0 n (λ k l. (omega (arith, ints, start.0), omega (arith, ints, room), start.2, start.3))

-- one in range has room, if it isn't empty
pub run_has_room : (state : ℕ) (at : Point) (n : ℕ) → 0 < n → AllByRecursion (λ e. IsInRange e.0) (run_of state at n) → HasRoomRight at n
run_has_room state at n some all =
    let first = at_run (λ e. IsInRange e.0) _ 0 n 0 (omega arith) (omega arith) all in
    let last = at_run (λ e. IsInRange e.0) _ 0 n (n - 1) (omega arith) (omega arith) all in
    ((omega (arith, ints, first.0), omega (arith, ints, first.1), first.2, first.3), omega (arith, ints, last.1))

-- an item whose live cells have room is in range
item_in_range : (at : Point) (i : Item) (live : Bool) → (live ≡ false → HasRoomRight at i.count) → AllByRecursion (λ e. IsInRange e.0) (cond live [] (run_of (tag_state i.tag) at i.count))
item_in_range at i true room = tt
item_in_range at i false room = run_in_range (tag_state i.tag) at i.count (room refl)

-- the place of an item has room for its cells, where they don't pass these columns and rows
has_room : (corner : Point) (before : List Item) (i : Item) (right bottom : ℕ) → IsInRange corner
    → (corner.x +ℤ pos right) ≤ℤ pos (2 ^ 60) → (corner.y +ℤ pos bottom) ≤ℤ pos (2 ^ 60) → (tag_state i.tag == 0) ≡ false → 0 < i.count → columns_to before i ≤ right → rows_to before i ≤ bottom
    → HasRoomRight (place_after corner before) i.count
has_room corner before i right bottom start x y live some columns rows =
    let c : columns_of before + i.count ≤ right = rw live at columns in
    let r : row_count before + 1 ≤ bottom = rw live at rows in
    ((omega (arith, ints, start.0), omega (arith, ints, x, c), omega (arith, ints, start.2), omega (arith, ints, y, r)), omega (arith, ints, x, c))

-- cells that don't pass them are in range
pub cells_in_range : (corner : Point) (before is : List Item) (right bottom : ℕ) → IsInRange corner → (corner.x +ℤ pos right) ≤ℤ pos (2 ^ 60) → (corner.y +ℤ pos bottom) ≤ℤ pos (2 ^ 60)
    → AllByRecursion (λ i. 0 < i.count) is → right_after before is ≤ right → bottom_after before is ≤ bottom → AllByRecursion (λ e. IsInRange e.0) (picture_after corner before is)
cells_in_range corner before [] right bottom start x y low r b = tt
cells_in_range corner before (i ∷ is) right bottom start x y (some, low) r b =
    all_append (λ e. IsInRange e.0) (item_cells corner before i) (picture_after corner (before ++ i ∷ []) is)
    (item_in_range (place_after corner before) i (tag_state i.tag == 0) (λ live. has_room corner before i right bottom start x y live some (omega (arith, r)) (omega (arith, b))))
    (cells_in_range corner (before ++ i ∷ []) is right bottom start x y low (omega (arith, r)) (omega (arith, b)))

-- ---- back from cells

-- what is at most a limit, by a test or not
limit-if : (corner : ℤ) (t : Bool) (n : ℕ) → corner ≤ℤ pos (2 ^ 60) → (t ≡ false → (corner +ℤ pos n) ≤ℤ pos (2 ^ 60)) → (corner +ℤ pos (cond t 0 n)) ≤ℤ pos (2 ^ 60)
limit-if corner true n low h = omega (arith, ints, low)
limit-if corner false n low h = h refl

limit-max : (corner : ℤ) (a b : ℕ) → (corner +ℤ pos a) ≤ℤ pos (2 ^ 60) → (corner +ℤ pos b) ≤ℤ pos (2 ^ 60) → (corner +ℤ pos (max a b)) ≤ℤ pos (2 ^ 60)
limit-max corner a b h k = omega (arith, ints, h, k)

-- an item in range has room for its live cells
room_from : (corner : Point) (before : List Item) (i : Item) → 0 < i.count → AllByRecursion (λ e. IsInRange e.0) (item_cells corner before i) → (tag_state i.tag == 0) ≡ false → HasRoomRight (place_after corner before) i.count
room_from corner before i some all live = run_has_room (tag_state i.tag) (place_after corner before) i.count some (rw live at all)

-- the columns and rows of cells in range
pub right_in_range : (corner : Point) (before is : List Item) → IsInRange corner → AllByRecursion (λ i. 0 < i.count) is → AllByRecursion (λ e. IsInRange e.0) (picture_after corner before is) → (corner.x +ℤ pos (right_after before is)) ≤ℤ pos (2 ^ 60)
right_in_range corner before [] start low all = omega (arith, ints, start.1)
right_in_range corner before (i ∷ is) start (some, low) all =
    let parts = all_parts (λ e. IsInRange e.0) (item_cells corner before i) (picture_after corner (before ++ i ∷ []) is) all in
    limit-max corner.x (columns_to before i) (right_after (before ++ i ∷ []) is)
    (limit-if corner.x (tag_state i.tag == 0) (columns_of before + i.count) (omega (arith, ints, start.1)) (λ live. let room = room_from corner before i some parts.0 live in omega (arith, ints, room.1)))
    (right_in_range corner (before ++ i ∷ []) is start low parts.1)

pub bottom_in_range : (corner : Point) (before is : List Item) → IsInRange corner → AllByRecursion (λ i. 0 < i.count) is → AllByRecursion (λ e. IsInRange e.0) (picture_after corner before is) → (corner.y +ℤ pos (bottom_after before is)) ≤ℤ pos (2 ^ 60)
bottom_in_range corner before [] start low all = omega (arith, ints, start.3)
bottom_in_range corner before (i ∷ is) start (some, low) all =
    let parts = all_parts (λ e. IsInRange e.0) (item_cells corner before i) (picture_after corner (before ++ i ∷ []) is) all in
    limit-max corner.y (rows_to before i) (bottom_after (before ++ i ∷ []) is)
    (limit-if corner.y (tag_state i.tag == 0) (row_count before + 1) (omega (arith, ints, start.3)) (λ live. let room = room_from corner before i some parts.0 live in omega (arith, ints, room.0.3)))
    (bottom_in_range corner (before ++ i ∷ []) is start low parts.1)

-- ---- the extent

-- what is kept as a number that is in range is that number
near : (corner : ℤ) (n m : ℕ) → neg_ℤ (pos (2 ^ 60)) ≤ℤ corner → n ≡ nearest_u64 m → (corner +ℤ pos n) ≤ℤ pos (2 ^ 60) → m ≡ n
near corner n m low e h = omega (arith, ints, low, e, h)

-- items whose extent is in range are
pub within_range : (corner : Point) (items : List Item) (e : Extent) → AllByRecursion (λ i. 0 < i.count) items → IsItemsExtent items e → IsExtentInRange e corner → IsRleWithinRange (bare_file corner items)
within_range corner items e low reach range =
    let right = near corner.x e.reach.columns (right_after [] items) range.start.0 reach.right range.right in
    let bottom = near corner.y e.reach.rows (bottom_after [] items) range.start.2 reach.bottom range.bottom in
    record {
      counts = counts_from (2 ^ 62) items (omega (arith, reach.longest, range.counts));
      corner = range.start;
      cells = cells_in_range corner [] items e.reach.columns e.reach.rows range.start range.right range.bottom low (omega (arith, right)) (omega (arith, bottom));
    }

-- a kept number is no more than the number
kept-le : (corner : ℤ) (n m : ℕ) → n ≡ nearest_u64 m → (corner +ℤ pos m) ≤ℤ pos (2 ^ 60) → (corner +ℤ pos n) ≤ℤ pos (2 ^ 60)
kept-le corner n m e h = omega (arith, ints, e, h)

-- and those that are in range have such an extent
pub extent_in_range : (corner : Point) (items : List Item) (e : Extent) → AllByRecursion (λ i. 0 < i.count) items → IsItemsExtent items e → IsRleWithinRange (bare_file corner items) → IsExtentInRange e corner
extent_in_range corner items e low reach range =
    record {
      counts = let longest = longest_from (2 ^ 62) items range.counts in omega (arith, reach.longest, longest);
      start = range.corner;
      right = kept-le corner.x e.reach.columns (right_after [] items) reach.right (right_in_range corner [] items range.corner low range.cells);
      bottom = kept-le corner.y e.reach.rows (bottom_after [] items) reach.bottom (bottom_in_range corner [] items range.corner low range.cells);
    }

-- ---- how many cells there are

live_length : (at : Point) (i : Item) (live : Bool) → length (cond live [] (run_of (tag_state i.tag) at i.count)) ≡ cond live 0 i.count
live_length at i true = refl
live_length at i false = length_run _ 0 i.count

-- a picture has as many cells as its items have live ones
pub length-picture : (corner : Point) (before is : List Item) → length (picture_after corner before is) ≡ live_count_of_items is
length-picture corner before [] = refl
length-picture corner before (i ∷ is) =
    let here : length (item_cells corner before i) ≡ live_count_of_item i = live_length (place_after corner before) i (tag_state i.tag == 0) in
    let later = length-picture corner (before ++ i ∷ []) is in
    omega (arith, length-append (item_cells corner before i) (picture_after corner (before ++ i ∷ []) is), sum_by-cons live_count_of_item i is, here, later)
