-- Frames of bricks that show planes, and are advanced by one generation.
use Rattle.std.proofs.Common.{◌≡◌, ◌≢◌, ℕ, zero, suc, ◌+◌, ◌*◌, ◌/◌, ◌%◌, ◌<◌, ◌≤◌, ◌⊎◌, inl, inr, List, [], length, slice_index, get_or, Vec, Global, Option, Some, None, if◌then◌else◌, ◌==◌, refl, sym, ap, ap₂, subst, ◌∙◌, ℤ, pos, negsuc, ◌+ℤ◌, ◌-ℤ◌, ◌≤ℤ◌, ◌<ℤ◌, arith}
use Rattle.std.specs.Prelude.{replicate}
use Rattle.std.specs.Int.{bit_at}
use Rattle.std.specs.List.{All}
use Rattle.std.proofs.lemmas.Bool.{cases_eq}
use Rattle.std.proofs.lemmas.Int.{ints}
use Rattle.std.proofs.lemmas.List.{get_or_past}
use Rattle.std.proofs.lemmas.List.Elements.{All-from_recursion}
use Rattle.std.proofs.lemmas.Nat.Bits.{bit_at-zero, bit_at-suc, bit_at_lowest, bit_at-lt, bit_at_above}
use Rattle.ca_plane.specs.Prelude.{from_corner, cells_after, around, counted_sum, counting_next}
use Rattle.ca_plane.specs.declared.counting.{Counting.Counting, Neighbourhood.Neighbourhood}
use Rattle.ca_plane.specs.declared.counting.Neighbourhood.TheVariants.{Moore, VonNeumann, Hexagonal}
use Rattle.ca_bricks.specs.declared.grid.BrickGrid.{BrickGrid}
use Rattle.ca_bricks.specs.Prelude.{BrickShows, GridShows, HasNeighbours, HasBlankEdge, IsNearEnd, IsNextBrick, GoesBy}
use Rattle.ca_bricks.specs.declared.cell_rule.CellRule.TheVariants.{ByCounting}
use Rattle.ca_bricks.proofs.LaterGrids.{grid_later}
use Rattle.ca_apgcode.specs.Prelude.{GridCells, IsGrid, cell, live, IsBoxRound}
use Rattle.ca_apgcode_search.specs.inner.Frames.{IsFrameOf, IsMiddle, IsBeside, AreColumnsOf, frame_row}
use Rattle.ca_apgcode_search.specs.Countings.{HasTwoStates, MayGoBy}

-- ---- two states

pub live_two : (s : ℕ) → s < 2 → live s ≡ s
live_two zero low = refl
live_two (suc zero) low = refl
live_two (suc (suc s)) low = absurd (omega (arith, low))

-- so nine cells round a place have
two_around : (cells : ℤ → ℤ → ℕ) (x y : ℤ) → HasTwoStates cells → All (λ s. s < 2) (around cells x y)
two_around cells x y two = All-from_recursion (λ s. s < 2) (around cells x y) (two _ _, (two _ _, (two _ _, (two _ _, (two _ _, (two _ _, (two _ _, (two _ _, (two _ _, tt)))))))))

-- a rule that goes by a counting leads from two states to two
pub two_next : (next : List ℕ → ℕ) (counting : Counting) → GoesBy next counting → (cells : ℤ → ℤ → ℕ) → HasTwoStates cells → HasTwoStates (cells_after next cells 1)
two_next next counting by cells two x y =
    let nine = around cells x y in
    let goes = by.by_counting.goes_by nine refl (two_around cells x y two) in
    let low = bit_at-lt (if slice_index nine 4 == 0 then counting.birth else counting.survival) _ in
    subst (λ s. s < 2) (sym goes) low

pub two_after : (next : List ℕ → ℕ) (counting : Counting) → GoesBy next counting → (cells : ℤ → ℤ → ℕ) → HasTwoStates cells → (n : ℕ) → HasTwoStates (cells_after next cells n)
two_after next counting by cells two zero = two
two_after next counting by cells two (suc n) = two_next next counting by (cells_after next cells n) (two_after next counting by cells two n)

-- so it goes by the counting later too
pub later_by : (next : List ℕ → ℕ) (counting : Option Counting) (cells later : ℤ → ℤ → ℕ) (n : ℕ) → ((x y : ℤ) → later x y ≡ cells_after next cells n x y) → MayGoBy next cells counting → MayGoBy next later counting
later_by next None cells later n same may = tt
later_by next (Some counting) cells later n same may = (may.0, λ x y. subst (λ s. s < 2) (sym (same x y)) (two_after next counting may.0 cells may.1 n x y))

-- ---- planes with x and y exchanged

-- the number of counted neighbours is the same
turned_sum : (counted : Neighbourhood) (cells : ℤ → ℤ → ℕ) (x y : ℤ) → counted_sum counted (around (λ u v. cells v u) x y) ≡ counted_sum counted (around cells y x)
turned_sum Moore cells x y = omega arith
turned_sum VonNeumann cells x y = omega arith
turned_sum Hexagonal cells x y = omega arith

turned_next : (counting : Counting) (cells : ℤ → ℤ → ℕ) (x y : ℤ) → counting_next counting (around (λ u v. cells v u) x y) ≡ counting_next counting (around cells y x)
turned_next counting cells x y = ap (bit_at (if cells y x == 0 then counting.birth else counting.survival)) (turned_sum counting.neighbourhood cells x y)

pub turned_after : (next : List ℕ → ℕ) (counting : Counting) → GoesBy next counting → (cells : ℤ → ℤ → ℕ) → HasTwoStates cells → (x y : ℤ) → cells_after next (λ u v. cells v u) 1 y x ≡ cells_after next cells 1 x y
turned_after next counting by cells two x y =
    by.by_counting.goes_by (around (λ u v. cells v u) y x) refl (two_around (λ u v. cells v u) y x (λ a b. two b a))
    ∙ (turned_next counting cells y x ∙ sym (by.by_counting.goes_by (around cells x y) refl (two_around cells x y two)))

-- ---- a box in a frame

dead_west : (cells : ℕ → ℕ → ℕ) (u : ℕ) (y : ℤ) → from_corner cells (negsuc u) y ≡ 0
dead_west cells u (pos y) = refl
dead_west cells u (negsuc y) = refl

-- beyond 40 columns and rows all is dead
beyond : (grid : GridCells) → IsGrid grid → (u v : ℤ) → (u <ℤ pos 0) ⊎ ((pos 40 ≤ℤ u) ⊎ ((v <ℤ pos 0) ⊎ (pos 40 ≤ℤ v))) → from_corner (cell grid) u v ≡ 0
beyond grid is (negsuc u) v out = dead_west (cell grid) u v
beyond grid is (pos u) (negsuc v) out = refl
beyond grid is (pos u) (pos v) (inl west) = absurd (omega (arith, ints, west))
beyond grid is (pos u) (pos v) (inr (inl east)) =
    let far : length grid.columns ≤ u = omega (arith, ints, east, is.width) in
    ap (λ n. bit_at n v) (get_or_past grid.columns u 0 far) ∙ bit_at-zero v
beyond grid is (pos u) (pos v) (inr (inr (inl north))) = absurd (omega (arith, ints, north))
beyond grid is (pos u) (pos v) (inr (inr (inr south))) =
    let far : grid.height ≤ v = omega (arith, ints, south, is.height) in
    bit_at_above (slice_index grid.columns u) grid.height v (is.rows u) far

-- a row of a frame, bit by bit
frame_bit : (grid : GridCells) (r x : ℕ) (u v : ℤ) → u ≡ pos r -ℤ pos 1 → v ≡ pos x -ℤ pos 1 → bit_at (frame_row grid r) x ≡ from_corner (cell grid) u v
frame_bit grid zero x (pos u) v e f = absurd (omega (arith, ints, e))
frame_bit grid zero x (negsuc u) v e f = bit_at-zero x ∙ sym (dead_west (cell grid) u v)
frame_bit grid (suc r) zero (negsuc u) v e f = absurd (omega (arith, ints, e))
frame_bit grid (suc r) zero (pos u) (pos v) e f = absurd (omega (arith, ints, f))
frame_bit grid (suc r) zero (pos u) (negsuc v) e f = bit_at_lowest (slice_index grid.columns r * 2) ∙ omega arith
frame_bit grid (suc r) (suc x) (negsuc u) v e f = absurd (omega (arith, ints, e))
frame_bit grid (suc r) (suc x) (pos u) (negsuc v) e f = absurd (omega (arith, ints, f))
frame_bit grid (suc r) (suc x) (pos u) (pos v) e f =
    let row : r ≡ u = omega (arith, ints, e) in
    let column : x ≡ v = omega (arith, ints, f) in
    let half : slice_index grid.columns r * 2 / 2 ≡ slice_index grid.columns r = omega arith in
    bit_at-suc (slice_index grid.columns r * 2) x ∙ (ap (λ n. bit_at n x) half ∙ ap₂ (cell grid) row column)

-- the bricks as a grid in the plane
abbrev pub frame_grid : Vec (List ℕ) Global → (a b : ℤ) → BrickGrid
frame_grid bricks a b = record { x = a; y = b; across = 3; down = 5; bricks = bricks; work = 0 }

module _ (cells : ℤ → ℤ → ℕ) (grid : GridCells) (two : HasTwoStates cells) (box : IsBoxRound cells grid) where
  -- where the frame begins, on the plane with x and y exchanged
  abbrev pub frame_x : ℤ
  frame_x = box.top -ℤ pos 65

  abbrev pub frame_y : ℤ
  frame_y = box.left -ℤ pos 17

  shown : (x y u v : ℤ) → u ≡ y -ℤ box.left → v ≡ x -ℤ box.top → cells y x ≡ from_corner (cell grid) u v
  shown x y u v e f = sym (live_two (cells y x) (two y x)) ∙ (box.same y x ∙ ap₂ (from_corner (cell grid)) (sym e) (sym f))

  middle_shows : (bricks : List (List ℕ)) → IsFrameOf grid bricks → (k t : ℕ) → k < 3 → t ≡ 4 + 3 * k → BrickShows (get_or bricks t []) (λ u v. cells v u) (frame_x +ℤ pos (64 * (t % 3))) (frame_y +ℤ pos (16 * (t / 3)))
  middle_shows bricks is k t low place = record {
    looks = λ x y low_x low_y.
        let row = 16 * k + y in
        let u = pos row -ℤ pos 1 in
        let v = pos x -ℤ pos 1 in
        let east : v ≡ ((frame_x +ℤ pos (64 * (t % 3))) +ℤ pos x) -ℤ box.top = omega (arith, ints, place) in
        let south : u ≡ ((frame_y +ℤ pos (16 * (t / 3))) +ℤ pos y) -ℤ box.left = omega (arith, ints, place) in
        ap (λ s. bit_at (slice_index (get_or bricks s []) y) x) place
        ∙ (ap (λ n. bit_at n x) (is.middle k y low low_y)
        ∙ (frame_bit grid row x u v refl refl ∙ sym (shown ((frame_x +ℤ pos (64 * (t % 3))) +ℤ pos x) ((frame_y +ℤ pos (16 * (t / 3))) +ℤ pos y) u v south east)));
  }

  blank_shows : (bricks : List (List ℕ)) → IsFrameOf grid bricks → (t : ℕ) → t < 15 → (IsMiddle t → ⊥) → BrickShows (get_or bricks t []) (λ u v. cells v u) (frame_x +ℤ pos (64 * (t % 3))) (frame_y +ℤ pos (16 * (t / 3)))
  blank_shows bricks is t low other = record {
    looks = λ x y low_x low_y.
        let u = pos (16 * (t / 3) + y) -ℤ pos 17 in
        let v = pos (64 * (t % 3) + x) -ℤ pos 65 in
        let east : v ≡ ((frame_x +ℤ pos (64 * (t % 3))) +ℤ pos x) -ℤ box.top = omega (arith, ints) in
        let south : u ≡ ((frame_y +ℤ pos (16 * (t / 3))) +ℤ pos y) -ℤ box.left = omega (arith, ints) in
        is.blank t other x y low_x low_y ∙ sym (shown ((frame_x +ℤ pos (64 * (t % 3))) +ℤ pos x) ((frame_y +ℤ pos (16 * (t / 3))) +ℤ pos y) u v south east ∙ beyond grid box.is_grid u v (out t x y low low_x low_y other));
  }
    where
      out : (t x y : ℕ) → t < 15 → x < 64 → y < 16 → (IsMiddle t → ⊥)
          → ((pos (16 * (t / 3) + y) -ℤ pos 17) <ℤ pos 0) ⊎ ((pos 40 ≤ℤ (pos (16 * (t / 3) + y) -ℤ pos 17)) ⊎ (((pos (64 * (t % 3) + x) -ℤ pos 65) <ℤ pos 0) ⊎ (pos 40 ≤ℤ (pos (64 * (t % 3) + x) -ℤ pos 65))))
      out t x y low low_x low_y other = elim (cases_eq (t % 3) 0) [
        | inl first ↦ inr (inr (inl (omega (arith, ints, first, low_x))))
        | inr some ↦ elim (cases_eq (t % 3) 2) [
          | inl last ↦ inr (inr (inr (omega (arith, ints, last))))
          | inr middle ↦ elim (cases_eq (t / 3) 0) [
            | inl top ↦ inl (omega (arith, ints, top, low_y))
            | inr below ↦
                let four : t ≢ 4 = λ e. other (inl e) in
                let seven : t ≢ 7 = λ e. other (inr (inl e)) in
                let ten : t ≢ 10 = λ e. other (inr (inr e)) in
                inr (inl (omega (arith, ints, low, some, middle, below, four, seven, ten)))
          ]
        ]
      ]

  brick_shows : (bricks : List (List ℕ)) → IsFrameOf grid bricks → (t : ℕ) → t < 15 → BrickShows (get_or bricks t []) (λ u v. cells v u) (frame_x +ℤ pos (64 * (t % 3))) (frame_y +ℤ pos (16 * (t / 3)))
  brick_shows bricks is t low = elim (cases_eq t 4) [
    | inl four ↦ middle_shows bricks is 0 t (omega arith) four
    | inr not_four ↦ elim (cases_eq t 7) [
      | inl seven ↦ middle_shows bricks is 1 t (omega arith) seven
      | inr not_seven ↦ elim (cases_eq t 10) [
        | inl ten ↦ middle_shows bricks is 2 t (omega arith) ten
        | inr not_ten ↦ blank_shows bricks is t low (λ middle. elim middle [ inl e ↦ not_four e | inr (inl e) ↦ not_seven e | inr (inr e) ↦ not_ten e ])
      ]
    ]
  ]

  margin_dead : (x y : ℤ) → IsNearEnd 64 1 3 frame_x x ⊎ IsNearEnd 16 1 5 frame_y y → cells y x ≡ 0
  margin_dead x y (inl (inl west)) = shown x y (y -ℤ box.left) (x -ℤ box.top) refl refl ∙ beyond grid box.is_grid (y -ℤ box.left) (x -ℤ box.top) (inr (inr (inl (omega (arith, ints, west)))))
  margin_dead x y (inl (inr east)) = shown x y (y -ℤ box.left) (x -ℤ box.top) refl refl ∙ beyond grid box.is_grid (y -ℤ box.left) (x -ℤ box.top) (inr (inr (inr (omega (arith, ints, east)))))
  margin_dead x y (inr (inl north)) = shown x y (y -ℤ box.left) (x -ℤ box.top) refl refl ∙ beyond grid box.is_grid (y -ℤ box.left) (x -ℤ box.top) (inl (omega (arith, ints, north)))
  margin_dead x y (inr (inr south)) = shown x y (y -ℤ box.left) (x -ℤ box.top) refl refl ∙ beyond grid box.is_grid (y -ℤ box.left) (x -ℤ box.top) (inr (inl (omega (arith, ints, south))))

  -- the frame shows it
  pub frame_shows : (bricks : Vec (List ℕ) Global) → IsFrameOf grid bricks.items → GridShows (frame_grid bricks frame_x frame_y) 1 (λ u v. cells v u)
  frame_shows bricks is =
      let size = is.size in
      record {
        is_grid = record { wide = omega arith; high = omega arith; size = size };
        bricks = λ t within. brick_shows bricks.items is t (omega (arith, within, size));
        margin = margin_dead;
      }

  -- and one generation later the next plane
  pub next_shows : (next : List ℕ → ℕ) (counting : Counting) → GoesBy next counting → next (replicate 9 0) ≡ 0 → (bricks later : Vec (List ℕ) Global) → IsFrameOf grid bricks.items → length later.items ≡ 15
      → ((t : ℕ) → HasNeighbours 3 15 t → IsNextBrick (ByCounting counting) 3 bricks.items later.items t) → HasBlankEdge 3 later.items → GridShows (frame_grid later frame_x frame_y) 0 (cells_after next (λ u v. cells v u) 1)
  next_shows next counting by quiet bricks later is size came blank =
      let old = frame_grid bricks frame_x frame_y in
      let new = frame_grid later frame_x frame_y in
      grid_later next (ByCounting counting) (record { goes_by = by.by_counting.goes_by }) quiet old new 1 0 0 (λ u v. cells v u) (omega arith) (frame_shows bricks is)
      (record { x = refl; y = refl; across = refl; down = refl }) (size ∙ sym is.size)
      (λ t has. came t (subst (λ n. HasNeighbours 3 n t) is.size has)) blank

-- ---- the rows in the middle

-- they are the columns of the plane that the frame shows with x and y exchanged
module _ (later : Vec (List ℕ) Global) (a b : ℤ) (p : ℤ → ℤ → ℕ) (shows : GridShows (frame_grid later a b) 0 p) (rows : List ℕ)
    (are : (r : ℕ) → r < 48 → slice_index rows r ≡ slice_index (get_or later.items (4 + 3 * (r / 16)) []) (r % 16)) where
  row_bit : (r v : ℕ) → r < 48 → v < 64 → live (p ((a +ℤ pos 64) +ℤ pos v) ((b +ℤ pos 16) +ℤ pos r)) ≡ bit_at (slice_index rows r) v
  row_bit r v low_r low_v =
      let t = 4 + 3 * (r / 16) in
      let s = r % 16 in
      let x = (a +ℤ pos 64) +ℤ pos v in
      let y = (b +ℤ pos 16) +ℤ pos r in
      let size' = shows.is_grid.size in
      let there = shows.bricks t (omega (arith, size', low_r)) in
      let east : (a +ℤ pos (64 * (t % 3))) +ℤ pos v ≡ x = omega (arith, ints) in
      let south : (b +ℤ pos (16 * (t / 3))) +ℤ pos s ≡ y = omega (arith, ints) in
      let bit : bit_at (slice_index rows r) v ≡ p x y = ap (λ n. bit_at n v) (are r low_r) ∙ (there.looks v s low_v (omega arith) ∙ ap₂ p east south) in
      live_two (p x y) (subst (λ n. n < 2) bit (bit_at-lt (slice_index rows r) v)) ∙ sym bit

  dead : (x y : ℤ) → IsNearEnd 64 0 3 a x ⊎ IsNearEnd 16 0 5 b y → live (p x y) ≡ 0
  dead x y out = ap live (shows.margin x y out)

  dead_beside : (x y : ℤ) → IsBeside (b +ℤ pos 16) (a +ℤ pos 64) x y → live (p y x) ≡ 0
  dead_beside x y (inl west) = dead y x (inr (inl (omega (arith, ints, west))))
  dead_beside x y (inr (inl east)) = dead y x (inr (inr (omega (arith, ints, east))))
  dead_beside x y (inr (inr (inl north))) = dead y x (inl (inl (omega (arith, ints, north))))
  dead_beside x y (inr (inr (inr south))) = dead y x (inl (inr (omega (arith, ints, south))))

  pub are_columns : AreColumnsOf rows (λ x y. p y x) (b +ℤ pos 16) (a +ℤ pos 64)
  are_columns = record { inside = row_bit; outside = dead_beside }
