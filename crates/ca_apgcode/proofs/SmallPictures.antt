-- Planes whose live cells lie within 40 by 40 cells have a text.
use Rattle.std.proofs.Common.{◌≡◌, ◌≢◌, ◌⊎◌, ℕ, zero, suc, ◌+◌, ◌-◌, ◌*◌, ◌%◌, ◌^◌, ◌<◌, ◌≤◌, List, length, map, get_or, refl, sym, ap, ap₂, subst, ◌∙◌, inl, inr, ℤ, pos, negsuc, ◌+ℤ◌, ◌-ℤ◌, arith}
use Rattle.std.specs.Prelude.{◌≤ℤ◌}
use Rattle.std.specs.Int.{bit_at}
use Rattle.std.specs.List.{range_with_len}
use Rattle.std.proofs.lemmas.Bool.{cases_lt, cases_eq}
use Rattle.std.proofs.lemmas.Int.{ints}
use Rattle.std.proofs.lemmas.List.{get_or_past}
use Rattle.std.proofs.lemmas.List.FromFn.{length-map-range_with_len, get_or-map-range_with_len}
use Rattle.std.proofs.lemmas.Nat.{pow_pos, mul-add-lt}
use Rattle.std.proofs.lemmas.Nat.Bits.{bit_at_lowest, bit_at_cat_low, bit_at_cat_high}
use Rattle.std.proofs.Math.Nat.{pow-suc}
use Rattle.ca_plane.specs.Prelude.{from_corner}
use Rattle.ca_apgcode.specs.Prelude.{GridCells, IsGrid, IsLeastGrid, cell, live, IsBoxRound, IsTextOf, LiesWithin}
use Rattle.ca_apgcode.proofs.PlaneBoxes.{LiesAt, lies_at, north_dead, east_dead, live_one}
use Rattle.ca_apgcode.proofs.SomeTexts.{some_text}
use Rattle.ca_apgcode.proofs.TurnedBoxes.{west_dead, south_dead}

-- ---- the first and the last number with a property

-- the first and the last of such numbers below a limit
record Ends (Has : ℕ → Type 0) (limit : ℕ) : Type 0 where
  first : ℕ
  last : ℕ
  below : last < limit
  at_first : Has first
  at_last : Has last
  between : (i : ℕ) → i < limit → Has i → (first ≤ i) × (i ≤ last)

-- where it is decided which numbers have it, some has it or none has
ends_or_none : (Has : ℕ → Type 0) (decides : (i : ℕ) → Has i ⊎ (Has i → ⊥)) (limit : ℕ) → Ends Has limit ⊎ ((i : ℕ) → i < limit → Has i → ⊥)
ends_or_none Has decides zero = inr (λ i below has. absurd (omega (arith, below)))
ends_or_none Has decides (suc n) = elim (decides n) [
  | inl here ↦ inl (elim (ends_or_none Has decides n) [
    | inl before ↦ record {
      first = before.first;
      last = n;
      below = omega arith;
      at_first = before.at_first;
      at_last = here;
      between = λ i below has. elim (cases_eq i n) [
        | inl same ↦ (omega (arith, same, before.below, before.between before.last before.below before.at_last), omega (arith, same))
        | inr other ↦ ((before.between i (omega (arith, below, other)) has).0, omega (arith, below))
      ];
    }
    | inr none ↦ record {
      first = n;
      last = n;
      below = omega arith;
      at_first = here;
      at_last = here;
      between = λ i below has. elim (cases_eq i n) [
        | inl same ↦ (omega (arith, same), omega (arith, same))
        | inr other ↦ absurd (none i (omega (arith, below, other)) has)
      ];
    }
  ])
  | inr not ↦ elim (ends_or_none Has decides n) [
    | inl before ↦ inl (record {
      first = before.first;
      last = before.last;
      below = omega (arith, before.below);
      at_first = before.at_first;
      at_last = before.at_last;
      between = λ i below has. elim (cases_eq i n) [
        | inl same ↦ absurd (not (subst Has same has))
        | inr other ↦ before.between i (omega (arith, below, other)) has
      ];
    })
    | inr none ↦ inr (λ i below has. elim (cases_eq i n) [
      | inl same ↦ not (subst Has same has)
      | inr other ↦ none i (omega (arith, below, other)) has
    ])
  ]
]

-- ---- the columns with live cells

-- a column has a live cell
abbrev HasLive : (ℤ → ℤ → ℕ) → ℤ → Type 0
HasLive p x = (y : ℤ) × (p x y ≢ 0)

-- the first column with one, and how much further the last one is
record Spans (p : ℤ → ℤ → ℕ) : Type 0 where
  first : ℤ
  further : ℕ
  few : further < 40
  at_first : HasLive p first
  at_last : HasLive p (first +ℤ pos further)
  between : (x y : ℤ) → p x y ≢ 0 → (first ≤ℤ x) × (x ≤ℤ (first +ℤ pos further))

-- a number is `steps` more than another one
record IsFrom (start x : ℤ) : Type 0 where
  steps : ℕ
  place : x ≡ start +ℤ pos steps

-- where it isn't less
is_from : (start x : ℤ) → start ≤ℤ x → IsFrom start x
is_from start x past = from (x -ℤ start) (omega (arith, ints, past)) (omega (arith, ints))
  where
    from : (d : ℤ) → pos 0 ≤ℤ d → x ≡ start +ℤ d → IsFrom start x
    from (pos n) sign place = record { steps = n; place = place }
    from (negsuc n) sign place = absurd (omega (arith, ints, sign))

module _ (p : ℤ → ℤ → ℕ) (left top : ℤ) (within : LiesWithin p left top) where
  -- a cell of the 40 by 40 is live
  abbrev LivesAt : ℕ → ℕ → Type 0
  LivesAt u v = p (left +ℤ pos u) (top +ℤ pos v) ≢ 0

  -- it is decided whether it is
  live_or_dead : (u v : ℕ) → LivesAt u v ⊎ (LivesAt u v → ⊥)
  live_or_dead u v = elim (cases_eq (p (left +ℤ pos u) (top +ℤ pos v)) 0) [
    | inl none ↦ inr (λ some. some none)
    | inr some ↦ inl some
  ]

  -- and so whether a column has a live cell
  some_or_none : (u : ℕ) → HasLive p (left +ℤ pos u) ⊎ (HasLive p (left +ℤ pos u) → ⊥)
  some_or_none u = elim (ends_or_none (LivesAt u) (live_or_dead u) 40) [
    | inl some ↦ inl (top +ℤ pos some.first, some.at_first)
    | inr none ↦ inr (λ has.
        let inside = within (left +ℤ pos u) has.0 has.1 in
        let row = is_from top has.0 inside.2 in
        let few : row.steps < 40 = omega (arith, ints, inside.3, row.place) in
        none row.steps few (subst (λ y. p (left +ℤ pos u) y ≢ 0) row.place has.1))
  ]

  -- the column of a live cell
  live_column_at : (x y : ℤ) → p x y ≢ 0 → (u : ℕ) × (u < 40) × (x ≡ left +ℤ pos u) × HasLive p (left +ℤ pos u)
  live_column_at x y some =
      let inside = within x y some in
      let column = is_from left x inside.0 in
      (column.steps, omega (arith, ints, inside.1, column.place), column.place, (y, subst (λ k. p k y ≢ 0) column.place some))

  -- where a cell is live, there are a first and a last column with one
  spans : (x y : ℤ) → p x y ≢ 0 → Spans p
  spans x y some = elim (ends_or_none (λ u. HasLive p (left +ℤ pos u)) some_or_none 40) [
    | inl ends ↦
        let order = (ends.between ends.last ends.below ends.at_last).0 in
        let last : (left +ℤ pos ends.first) +ℤ pos (ends.last - ends.first) ≡ left +ℤ pos ends.last = omega (arith, ints, order) in
        record {
          first = left +ℤ pos ends.first;
          further = ends.last - ends.first;
          few = omega (arith, ends.below);
          at_first = ends.at_first;
          at_last = subst (HasLive p) (sym last) ends.at_last;
          between = λ k l lives.
              let at = live_column_at k l lives in
              let inside = ends.between at.0 at.1 at.3 in
              (omega (arith, ints, at.2, inside.0), omega (arith, ints, at.2, inside.1));
        }
    | inr none ↦ let at = live_column_at x y some in absurd (none at.0 at.1 at.3)
  ]

-- ---- a box that is drawn

-- a column of cells as a number, the northern one as 1
column : (ℕ → ℕ) → ℕ → ℕ
column f zero = 0
column f (suc k) = f k * 2 ^ k + column f k

-- it is no longer than the column
column_low : (f : ℕ → ℕ) → ((y : ℕ) → f y < 2) → (k : ℕ) → column f k < 2 ^ k
unfolding column
column_low f bits zero = omega arith
column_low f bits (suc k) = rw (pow-suc 2 k) (mul-add-lt (f k) (2 ^ k) (column f k) 2 (bits k) (column_low f bits k))

-- and has its cells
column_bits : (f : ℕ → ℕ) → ((y : ℕ) → f y < 2) → (k y : ℕ) → y < k → bit_at (column f k) y ≡ f y
unfolding column
column_bits f bits zero y below = absurd (omega (arith, below))
column_bits f bits (suc k) y below = elim (cases_eq y k) [
  | inl same ↦
      let none : y - k ≡ 0 = omega (arith, same) in
      let one : f k % 2 ≡ f k = omega (arith, bits k) in
      bit_at_cat_high (f k) k (column f k) y (column_low f bits k) (omega (arith, same)) ∙ (ap (bit_at (f k)) none ∙ (bit_at_lowest (f k) ∙ (one ∙ ap f (sym same))))
  | inr other ↦ bit_at_cat_low (f k) k (column f k) y (omega (arith, below, other)) ∙ column_bits f bits k y (omega (arith, below, other))
]

module _ (f : ℕ → ℕ → ℕ) (bits : (x y : ℕ) → f x y < 2) (width height : ℕ) where
  -- the box with these cells
  abbrev drawn : GridCells
  drawn = record { height = height; columns = map (λ x. column (f x) height) (range_with_len 0 width) }

  -- how wide it is
  drawn_width : length drawn.columns ≡ width
  drawn_width = length-map-range_with_len (λ x. column (f x) height) 0 width

  -- its columns
  drawn_column : (x : ℕ) → x < width → get_or drawn.columns x 0 ≡ column (f x) height
  drawn_column x within = get_or-map-range_with_len (λ x. column (f x) height) 0 width x x 0 within (omega arith)

  -- and cells
  drawn_cell : (x y : ℕ) → x < width → y < height → cell drawn x y ≡ f x y
  drawn_cell x y across down = ap (λ n. bit_at n y) (drawn_column x across) ∙ column_bits (f x) (bits x) height y down

  -- it is a grid, where it is no larger than one
  IsGrid-drawn : width ≤ 40 → height ≤ 40 → IsGrid drawn
  IsGrid-drawn narrow low = record {
    width = omega (arith, narrow, drawn_width);
    height = low;
    rows = λ x. elim (cases_lt x width) [
      | inl within ↦ subst (λ n. n < 2 ^ height) (sym (drawn_column x within)) (column_low (f x) (bits x) height)
      | inr east ↦ subst (λ n. n < 2 ^ height) (sym (get_or_past drawn.columns x 0 (omega (arith, east, drawn_width)))) (pow_pos height)
    ];
  }

-- ---- the box round the live cells

-- a cell is shown by 0 or 1
live_bit : (state : ℕ) → live state < 2
live_bit zero = omega arith
live_bit (suc state) = omega arith

-- a dead one by 0
live_none : (state : ℕ) → (state ≢ 0 → ⊥) → live state ≡ 0
live_none zero dead = refl
live_none (suc state) dead = absurd (dead (λ none. omega (arith, none)))

module _ (p : ℤ → ℤ → ℕ) (across : Spans p) (down : Spans (λ y x. p x y)) where
  -- the states from the corner onwards
  abbrev state : ℕ → ℕ → ℕ
  state u v = p (across.first +ℤ pos u) (down.first +ℤ pos v)

  -- and what is shown of them
  abbrev shown : ℕ → ℕ → ℕ
  shown u v = live (state u v)

  shown_bit : (u v : ℕ) → shown u v < 2
  shown_bit u v = live_bit (state u v)

  -- the box from the first column and row with a live cell to the last ones
  abbrev box : GridCells
  box = drawn shown shown_bit (suc across.further) (suc down.further)

  is_grid : IsGrid box
  is_grid = IsGrid-drawn shown shown_bit (suc across.further) (suc down.further) (omega (arith, across.few)) (omega (arith, down.few))

  box_width : length box.columns ≡ suc across.further
  box_width = drawn_width shown shown_bit (suc across.further) (suc down.further)

  -- a live cell lies in it
  inside : (dx dy : ℤ) → p (across.first +ℤ dx) (down.first +ℤ dy) ≢ 0 → (pos 0 ≤ℤ dx) × (dx ≤ℤ pos across.further) × (pos 0 ≤ℤ dy) × (dy ≤ℤ pos down.further)
  inside dx dy some =
      let columns = across.between (across.first +ℤ dx) (down.first +ℤ dy) some in
      let rows = down.between (down.first +ℤ dy) (across.first +ℤ dx) some in
      (omega (arith, ints, columns.0), omega (arith, ints, columns.1), omega (arith, ints, rows.0), omega (arith, ints, rows.1))

  -- so it shows all of the plane, as seen from its corner
  shows : (dx dy : ℤ) → live (p (across.first +ℤ dx) (down.first +ℤ dy)) ≡ from_corner (cell box) dx dy
  shows (pos u) (pos v) = elim (cases_lt u (suc across.further)) [
    | inl within ↦ elim (cases_lt v (suc down.further)) [
      | inl above ↦ sym (drawn_cell shown shown_bit (suc across.further) (suc down.further) u v within above)
      | inr south ↦ live_none (state u v) (λ some. omega (arith, ints, south, (inside (pos u) (pos v) some).3)) ∙ sym (south_dead box is_grid u v south)
    ]
    | inr east ↦ live_none (state u v) (λ some. omega (arith, ints, east, (inside (pos u) (pos v) some).1)) ∙ sym (east_dead box u v (omega (arith, east, box_width)))
  ]
  shows (pos u) (negsuc v) = live_none (p (across.first +ℤ pos u) (down.first +ℤ negsuc v)) (λ some. omega (arith, ints, (inside (pos u) (negsuc v) some).2)) ∙ sym (north_dead (cell box) (pos u) v)
  shows (negsuc u) dy = live_none (p (across.first +ℤ negsuc u) (down.first +ℤ dy)) (λ some. omega (arith, ints, (inside (negsuc u) dy some).0)) ∙ sym (west_dead (cell box) u dy)

  -- as it is
  same : (x y : ℤ) → live (p x y) ≡ from_corner (cell box) (x -ℤ across.first) (y -ℤ down.first)
  same x y =
      let column : x ≡ across.first +ℤ (x -ℤ across.first) = omega (arith, ints) in
      let row : y ≡ down.first +ℤ (y -ℤ down.first) = omega (arith, ints) in
      ap₂ (λ k l. live (p k l)) column row ∙ shows (x -ℤ across.first) (y -ℤ down.first)

  -- the place of a live cell in it
  place : (x y : ℤ) → p x y ≢ 0 → LiesAt (cell box) (x -ℤ across.first) (y -ℤ down.first)
  place x y some = lies_at (cell box) (x -ℤ across.first) (y -ℤ down.first) (sym (same x y) ∙ live_one (p x y) some)

  -- and a live cell is in each of its outermost columns and rows
  is_least : IsLeastGrid box
  is_least =
      let at_west = place across.first across.at_first.0 across.at_first.1 in
      let at_east = place (across.first +ℤ pos across.further) across.at_last.0 across.at_last.1 in
      let at_north = place down.at_first.0 down.first down.at_first.1 in
      let at_south = place down.at_last.0 (down.first +ℤ pos down.further) down.at_last.1 in
      let west : 0 ≡ at_west.u = omega (arith, ints, at_west.is_x) in
      let east : length box.columns - 1 ≡ at_east.u = omega (arith, ints, at_east.is_x, box_width) in
      let north : 0 ≡ at_north.v = omega (arith, ints, at_north.is_y) in
      let south : suc down.further - 1 ≡ at_south.v = omega (arith, ints, at_south.is_y) in
      record {
        west = (at_west.v, ap (λ x. cell box x at_west.v) west ∙ at_west.lives);
        east = (at_east.v, ap (λ x. cell box x at_east.v) east ∙ at_east.lives);
        north = (at_north.u, ap (cell box at_north.u) north ∙ at_north.lives);
        south = (at_south.u, ap (cell box at_south.u) south ∙ at_south.lives);
      }

  -- so it is the box round them, and has a text
  is_box_round : IsBoxRound p box
  is_box_round = record { left = across.first; top = down.first; is_grid = is_grid; is_least = is_least; same = same }

  text_of_box : (text : List ℕ) × IsTextOf p text
  text_of_box = let text = some_text box is_grid in (text.0, (box, is_box_round, text.1))

-- a plane with a live cell whose live cells lie within 40 by 40 cells has a text
pub small_text : (p : ℤ → ℤ → ℕ) (left top x y : ℤ) → LiesWithin p left top → p x y ≢ 0 → (text : List ℕ) × IsTextOf p text
small_text p left top x y within some =
    let turned : LiesWithin (λ y x. p x y) top left = λ l k lives. let inside = within k l lives in (inside.2, inside.3, inside.0, inside.1) in
    text_of_box p (spans p left top within x y some) (spans (λ y x. p x y) top left turned y x some)
