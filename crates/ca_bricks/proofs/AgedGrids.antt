-- Grids whose cells age, a generation later.
use Rattle.std.proofs.Common.{◌≡◌, ℕ, suc, ◌+◌, ◌-◌, ◌*◌, ◌<◌, ◌≤◌, ◌^◌, inl, inr, List, [], map, length, get_or, slice_index, refl, sym, ap, ap₂, subst, ◌∙◌, arith, ◌==◌, if◌then◌else◌}
use Rattle.std.specs.Prelude.{ℤ, pos, ◌+ℤ◌, replicate}
use Rattle.std.proofs.lemmas.Bool.Decides.{nat_tests}
use Rattle.std.proofs.lemmas.List.Elements.{All-from_recursion}
use Rattle.std.proofs.lemmas.Nat.Bits.{bit_at-zero, bit_at-lt}
use Rattle.ca_plane.specs.Prelude.{liveness, aged, GoesByAgeing, counting_next, counted_sum, around, cells_after, row_cells}
use Rattle.ca_plane.specs.declared.counting.{Ageing.Ageing, Counting.Counting}
use Rattle.ca_plane.proofs.Numbers.{below_or_not}
use Rattle.ca_bricks.specs.Prelude.{GoesByCells, AgedGridShows, AreAlike, IsBeside, IsNextAged, HasBlankEdges, remaining, dying_digit, aged_digit, number_at, lives_at, begins_at, IsGrid, GridShows}
use Rattle.ca_bricks.specs.Prelude.{BrickShows, BricksShow, HasMargin, HasNeighbours, HasBlankEdge, brick_x, brick_y, round_at, column_at}
use Rattle.ca_bricks.specs.declared.cell_rule.CellRule.TheVariants.{ByCounting}
use Rattle.ca_bricks.specs.declared.{aged.AgedGrid.AgedGrid, grid.BrickGrid.BrickGrid}
use Rattle.ca_bricks.proofs.AgedNumbers.{number_of}
use Rattle.ca_bricks.proofs.AgedStates.{lives_aged, digit_aged, aged_low}
use Rattle.ca_bricks.proofs.BrickEdges.{edge_dead, next_shows, round_shows}
use Rattle.ca_bricks.proofs.BrickMargins.{margin_less, margin_shrinks}
use Rattle.ca_bricks.proofs.BrickRows.{wide_bit-lt}
use Rattle.ca_bricks.proofs.LaterGrids.{edge_blank}

-- ---- planes of bits

-- bricks show the bits of a plane that is dead at the edge, where those with others on all sides do, and the others are blank
pub bits_shown : (f : ℕ → ℕ) → f 0 ≡ 0 → (across down : ℕ) (bricks : List (List ℕ)) (q : ℤ → ℤ → ℕ) (a b : ℤ) → 2 ≤ across → 2 ≤ down → length bricks ≡ down * across
    → HasMargin 0 across down q a b
    → ((t : ℕ) → HasNeighbours across (length bricks) t → (x y : ℕ) → x < 64 → y < 16 → row_cells (get_or bricks t []) x y ≡ f (q (brick_x across a t +ℤ pos x) (brick_y across b t +ℤ pos y)))
    → HasBlankEdge across bricks → BricksShow across bricks (λ x y. f (q x y)) a b
bits_shown f none across down bricks q a b wide high size margin inner blank t h = elim (below_or_not across t) [
  | inr low ↦ edge (λ has. omega (arith, has.before, low))
  | inl before ↦ elim (below_or_not (t + across + 1) (length bricks)) [
    | inl behind ↦ record { looks = inner t (record { before = before; behind = behind }) }
    | inr end ↦ edge (λ has. omega (arith, has.behind, end))
  ]
]
  where
    edge : (HasNeighbours across (length bricks) t → ⊥) → BrickShows (get_or bricks t []) (λ x y. f (q x y)) (brick_x across a t) (brick_y across b t)
    edge not = record {
      looks = λ x y i j. blank t not x y i j ∙ sym (ap f (edge_dead across down (length bricks) q a b wide high size margin t h not x y i j) ∙ none);
    }

-- a grid that lies where another one does shows what its bricks show there
pub grid_in_place : (live grid : BrickGrid) (m : ℕ) (q : ℤ → ℤ → ℕ) → IsGrid live → IsBeside live grid → BricksShow live.across grid.bricks.items q live.x live.y
    → HasMargin m live.across live.down q live.x live.y → GridShows grid m q
grid_in_place live grid m q is beside bricks margin =
    rw (beside.place.x, beside.place.y, beside.place.across, beside.place.down) (record {
      is_grid = record { wide = is.wide; high = is.high; size = beside.size ∙ is.size };
      bricks = bricks;
      margin = margin;
    })

-- a rule that goes by the counting
pub by_it : (counting : Counting) → GoesByCells (counting_next counting) (ByCounting counting)
by_it counting = record { goes_by = λ nine _ _. refl }

pub counting_low : (counting : Counting) (nine : List ℕ) → counting_next counting nine < 2
counting_low counting nine = bit_at-lt (if slice_index nine 4 == 0 then counting.birth else counting.survival) (counted_sum counting.neighbourhood nine)

-- ---- cells

remaining_low : (states s most : ℕ) → 2 ≤ states → states < 2 + most → remaining states s < most
remaining_low states s most least enough = grind (arith, nat_tests)

-- the blank bricks at the edge
pub aged_edges : (grid : AgedGrid) (m : ℕ) (p : ℤ → ℤ → ℕ) → AgedGridShows grid m p → HasBlankEdges grid
aged_edges grid m p shows t not = record {
  live = edge_blank grid.live m (λ x y. liveness (p x y)) shows.live t not;
  dying = λ k d low.
      let digit = get_or grid.dying.items k d in
      let beside = shows.beside k d low in
      edge_blank digit m (λ x y. dying_digit grid.states k (p x y)) (shows.dying k d low) t
      (λ has. not (subst (λ n. HasNeighbours grid.live.across n t) beside.size (subst (λ n. HasNeighbours n (length digit.bricks.items) t) beside.place.across has)));
}

module _ (next : List ℕ → ℕ) (ageing : Ageing) (grid later : AgedGrid) (m : ℕ) (p : ℤ → ℤ → ℕ) (goes_by : GoesByAgeing grid.states next ageing) (quiet : next (replicate 9 0) ≡ 0)
    (shows : AgedGridShows grid (suc m) p) (alike : AreAlike grid later)
    (came : (t : ℕ) → HasNeighbours grid.live.across (length grid.live.bricks.items) t → IsNextAged ageing grid later t) (blank : HasBlankEdges later) where
  abbrev across : ℕ
  across = grid.live.across

  abbrev count : ℕ
  count = length grid.live.bricks.items

  -- whether the counting says of a place that it lives
  abbrev lives : ℤ → ℤ → ℕ
  lives x y = counting_next ageing.counting (map liveness (around p x y))

  next_at : (x y : ℤ) → cells_after next p 1 x y ≡ aged grid.states (p x y) (lives x y)
  next_at x y =
      goes_by.goes_by (around p x y) refl (All-from_recursion (λ s. s < grid.states) (around p x y)
      (shows.low _ _, (shows.low _ _, (shows.low _ _, (shows.low _ _, (shows.low _ _, (shows.low _ _, (shows.low _ _, (shows.low _ _, (shows.low _ _, tt))))))))))
      ∙ ap (λ n. aged n (p x y) (lives x y)) (sym goes_by.as_many)

  lives_low : (x y : ℤ) → lives x y < 2
  lives_low x y = counting_low ageing.counting (map liveness (around p x y))

  -- the places of a brick's cells
  abbrev x_of : ℕ → ℕ → ℤ
  x_of t x = brick_x across grid.live.x t +ℤ pos x

  abbrev y_of : ℕ → ℕ → ℤ
  y_of t y = brick_y across grid.live.y t +ℤ pos y

  number_shown : (t x y : ℕ) → t < count → x < 64 → y < 16 → number_at grid.dying.items t x y ≡ remaining grid.states (p (x_of t x) (y_of t y))
  number_shown t x y h i j =
      number_of grid.dying.items t x y (remaining grid.states (p (x_of t x) (y_of t y))) (remaining_low grid.states _ (2 ^ length grid.dying.items) shows.least shows.enough)
      (λ k d low.
      let digit = get_or grid.dying.items k d in
      let beside = shows.beside k d low in
      ((shows.dying k d low).bricks t (omega (arith, h, beside.size))).looks x y i j
      ∙ ap₂ (λ u v. dying_digit grid.states k (p u v))
      (ap₂ (λ n a. brick_x n a t +ℤ pos x) beside.place.across beside.place.x) (ap₂ (λ n b. brick_y n b t +ℤ pos y) beside.place.across beside.place.y))

  lives_shown : (t x y : ℕ) → HasNeighbours across count t → x < 64 → y < 16 → lives_at ageing grid t x y ≡ lives (x_of t x) (y_of t y)
  lives_shown t x y has i j =
      let old = grid.live.bricks.items in
      next_shows (counting_next ageing.counting) (ByCounting ageing.counting) (by_it ageing.counting) (λ x y. liveness (p x y)) (round_at across old t) (brick_x across grid.live.x t) (brick_y across grid.live.y t)
      (λ u v. wide_bit-lt (column_at across old (t - 1) v) (column_at across old t v) (column_at across old (t + 1) v) u)
      (round_shows across grid.live.down old (λ x y. liveness (p x y)) grid.live.x grid.live.y
      (margin_less (suc m) 0 across grid.live.down (λ x y. liveness (p x y)) grid.live.x grid.live.y (omega arith) shows.live.margin) shows.live.bricks t shows.live.is_grid.wide has.before has.behind) x y i j

  margin : HasMargin m across grid.live.down (cells_after next p 1) grid.live.x grid.live.y
  margin = margin_shrinks next quiet m across grid.live.down p grid.live.x grid.live.y shows.margin

  margin_0 : HasMargin 0 across grid.live.down (cells_after next p 1) grid.live.x grid.live.y
  margin_0 = margin_less m 0 across grid.live.down (cells_after next p 1) grid.live.x grid.live.y (omega arith) margin

  live_later : (t : ℕ) → HasNeighbours across count t → (x y : ℕ) → x < 64 → y < 16 → row_cells (get_or later.live.bricks.items t []) x y ≡ liveness (cells_after next p 1 (x_of t x) (y_of t y))
  live_later t has x y i j =
      (came t has).live x y i j ∙ ap₂ (λ a b. a - b) (lives_shown t x y has i j) (number_shown t x y (omega (arith, has.behind)) i j)
      ∙ lives_aged grid.states (p (x_of t x) (y_of t y)) (lives (x_of t x) (y_of t y)) (shows.low _ _) (lives_low _ _) ∙ ap liveness (sym (next_at (x_of t x) (y_of t y)))

  digit_later : (k : ℕ) (d : BrickGrid) → k < length grid.dying.items → (t : ℕ) → HasNeighbours across count t → (x y : ℕ) → x < 64 → y < 16
      → row_cells (get_or (get_or later.dying.items k d).bricks.items t []) x y ≡ dying_digit grid.states k (cells_after next p 1 (x_of t x) (y_of t y))
  digit_later k d low t has x y i j =
      let own = (shows.live.bricks t (omega (arith, has.behind))).looks x y i j in
      let begins : begins_at ageing grid t x y ≡ liveness (p (x_of t x) (y_of t y)) - lives (x_of t x) (y_of t y) = ap₂ (λ a b. a - b) own (lives_shown t x y has i j) in
      (came t has).dying k d low x y i j
      ∙ ap₂ (aged_digit ageing.states k) (number_shown t x y (omega (arith, has.behind)) i j) begins
      ∙ ap (λ n. aged_digit n k (remaining grid.states (p (x_of t x) (y_of t y))) (liveness (p (x_of t x) (y_of t y)) - lives (x_of t x) (y_of t y))) (sym goes_by.as_many)
      ∙ digit_aged grid.states k (p (x_of t x) (y_of t y)) (lives (x_of t x) (y_of t y)) shows.least (shows.low _ _) (lives_low _ _)
      ∙ ap (dying_digit grid.states k) (sym (next_at (x_of t x) (y_of t y)))

  live_grid : GridShows later.live m (λ x y. liveness (cells_after next p 1 x y))
  live_grid =
      let place = alike.live.place in
      let size = alike.live.size in
      let is = shows.live.is_grid in
      let edge = λ (t : ℕ) (not : HasNeighbours across (length later.live.bricks.items) t → ⊥).
      (blank t (λ has. not (subst (λ n. HasNeighbours n (length later.live.bricks.items) t) place.across has))).live in
      rw (place.x, place.y, place.across, place.down) (record {
        is_grid = record { wide = is.wide; high = is.high; size = size ∙ is.size };
        bricks = bits_shown liveness refl across grid.live.down later.live.bricks.items (cells_after next p 1) grid.live.x grid.live.y is.wide is.high (size ∙ is.size) margin_0
            (λ t has. live_later t (subst (λ n. HasNeighbours across n t) size has)) edge;
        margin = λ x y out. ap liveness (margin x y out);
      })

  digit_grid : (k : ℕ) (d : BrickGrid) → k < length later.dying.items → GridShows (get_or later.dying.items k d) m (λ x y. dying_digit later.states k (cells_after next p 1 x y))
  digit_grid k d low =
      let beside = alike.dying k d low in
      let digit = get_or later.dying.items k d in
      let is = shows.live.is_grid in
      let within : k < length grid.dying.items = omega (arith, low, alike.digits) in
      let none : dying_digit grid.states k 0 ≡ 0 = bit_at-zero k in
      let edge = λ (t : ℕ) (not : HasNeighbours across (length digit.bricks.items) t → ⊥).
      (blank t (λ has. not (subst (λ n. HasNeighbours across n t) (alike.live.size ∙ sym beside.size) (subst (λ n. HasNeighbours n (length later.live.bricks.items) t) alike.live.place.across has)))).dying k d low in
      subst (λ n. GridShows digit m (λ x y. dying_digit n k (cells_after next p 1 x y))) (sym alike.states) (grid_in_place grid.live digit m (λ x y. dying_digit grid.states k (cells_after next p 1 x y)) is beside
      (bits_shown (dying_digit grid.states k) none across grid.live.down digit.bricks.items (cells_after next p 1) grid.live.x grid.live.y is.wide is.high (beside.size ∙ is.size) margin_0
      (λ t has. digit_later k d within t (subst (λ n. HasNeighbours across n t) beside.size has)) edge)
      (λ x y out. ap (dying_digit grid.states k) (margin x y out) ∙ none))

  -- it shows the next generation, with a margin of a cell less
  pub aged_grid_later : AgedGridShows later m (cells_after next p 1)
  aged_grid_later =
      let place = alike.live.place in
      record {
        least = rw alike.states shows.least;
        most = rw alike.states shows.most;
        low = λ x y. rw (alike.states, next_at x y) (aged_low grid.states (p x y) (lives x y) shows.least (shows.low x y));
        enough = rw (alike.states, alike.digits) shows.enough;
        beside = λ k d low.
            let own = alike.dying k d low in
            record {
              place = record { x = own.place.x ∙ sym place.x; y = own.place.y ∙ sym place.y; across = own.place.across ∙ sym place.across; down = own.place.down ∙ sym place.down };
              size = own.size ∙ sym alike.live.size;
            };
        margin = rw (place.x, place.y, place.across, place.down) margin;
        live = live_grid;
        dying = digit_grid;
      }
