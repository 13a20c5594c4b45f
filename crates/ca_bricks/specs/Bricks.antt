-- Bricks: 64 by 16 cells of two states, sixteen rows from the top, of which bit 0 is the western-most cell (our own). They lie side by side
-- in rows of as many, and each has a number: first those of the northern-most row from the west, then those of the next.
use Rattle.std.specs.Prelude.{◌≡◌, ℕ, zero, suc, ◌+◌, ◌-◌, ◌*◌, ◌/◌, ◌%◌, ◌<◌, ◌≤◌, ℤ, pos, ◌+ℤ◌, ◌≤ℤ◌, ◌<ℤ◌, ◌^◌, neg_ℤ, List, [], length, get_or, if◌then◌else◌, nat_lt, ◌⊎◌, slice_index, bit_and, bit_or}
use Rattle.std.specs.Int.{bit_at}
use Rattle.ca_plane.specs.Prelude.{row_cells}
use Rattle.ca_plane.specs.declared.counting.Counting.{Counting}
use Rattle.ca_bricks.specs.declared.{round.Round.Round, grid.BrickGrid.BrickGrid, count.Count.Count, word.WordMasks.WordMasks, word.WordPair.WordPair, grid.WordPlace.WordPlace}
use Rattle.ca_bricks.specs.declared.cell_rule.CellRule.{CellRule}
use Rattle.ca_bricks.specs.{Words.eight, Tiles.next_by_count, Tiles.sum_round, Tiles.nine_at, Diagrams.diagram_next}
use Rattle.ca_bricks.specs.declared.cell_rule.CellRule.TheVariants.{ByCounting, ByDiagram}

-- ---- bricks on the plane

-- sixteen rows of words show the plane from (a, b) onwards
pub record BrickShows (rows : List ℕ) (p : ℤ → ℤ → ℕ) (a b : ℤ) : Type 0 where
  pub looks : (x y : ℕ) → x < 64 → y < 16 → row_cells rows x y ≡ p (a +ℤ pos x) (b +ℤ pos y)

-- where brick t begins, of those of which `across` lie side by side and the first begins at (a, b)
abbrev pub brick_x : ℕ → ℤ → ℕ → ℤ
brick_x across a t = a +ℤ pos (64 * (t % across))

abbrev pub brick_y : ℕ → ℤ → ℕ → ℤ
brick_y across b t = b +ℤ pos (16 * (t / across))

-- the bricks show the plane, the first from (a, b) onwards
abbrev pub BricksShow : ℕ → List (List ℕ) → (ℤ → ℤ → ℕ) → ℤ → ℤ → Type 0
BricksShow across bricks p a b = (t : ℕ) → t < length bricks → BrickShows (get_or bricks t []) p (brick_x across a t) (brick_y across b t)

-- the coordinate x lies in the first of `count` bricks from a onwards, in the last or within m cells of them, or
-- beyond; a brick is `long` cells long
abbrev pub IsNearEnd : (long m count : ℕ) → (a x : ℤ) → Type 0
IsNearEnd long m count a x = (x <ℤ (a +ℤ pos (long + m))) ⊎ ((a +ℤ pos (long * count)) ≤ℤ (x +ℤ pos (long + m)))

-- all is dead in the bricks of the ring at the edge, within m cells of them, and beyond
abbrev pub HasMargin : (m across down : ℕ) → (ℤ → ℤ → ℕ) → ℤ → ℤ → Type 0
HasMargin m across down p a b = (x y : ℤ) → IsNearEnd 64 m across a x ⊎ IsNearEnd 16 m down b y → p x y ≡ 0

-- the grid has `down` rows of `across` bricks, two of each at least
pub record IsGrid (grid : BrickGrid) : Type 0 where
  pub wide : 2 ≤ grid.across
  pub high : 2 ≤ grid.down
  pub size : length grid.bricks.items ≡ grid.down * grid.across

-- the bricks of the grid show the plane, and all is dead in its ring at the edge, within m cells of it, and beyond
pub record GridShows (grid : BrickGrid) (m : ℕ) (p : ℤ → ℤ → ℕ) : Type 0 where
  pub is_grid : IsGrid grid
  pub bricks : BricksShow grid.across grid.bricks.items p grid.x grid.y
  pub margin : HasMargin m grid.across grid.down p grid.x grid.y

-- the grid lies where the other one lies, and has as many bricks
pub record IsInPlace (before later : BrickGrid) : Type 0 where
  pub x : later.x ≡ before.x
  pub y : later.y ≡ before.y
  pub across : later.across ≡ before.across
  pub down : later.down ≡ before.down

-- the place, and `words` words to the east and to the south of it, lie near the first word of the grid
pub record IsNearGrid (words : ℕ) (at : WordPlace) : Type 0 where
  pub west : neg_ℤ (pos (2 ^ 61)) ≤ℤ at.i
  pub north : neg_ℤ (pos (2 ^ 61)) ≤ℤ at.j
  pub east : (at.i +ℤ pos words) ≤ℤ pos (2 ^ 61)
  pub south : (at.j +ℤ pos words) ≤ℤ pos (2 ^ 61)

-- all bricks lie within a way from the origin
pub record LiesWithin (way : ℕ) (grid : BrickGrid) : Type 0 where
  pub west : neg_ℤ (pos way) ≤ℤ grid.x
  pub north : neg_ℤ (pos way) ≤ℤ grid.y
  pub east : (grid.x +ℤ pos (64 * grid.across)) ≤ℤ pos way
  pub south : (grid.y +ℤ pos (16 * grid.down)) ≤ℤ pos way

-- and the way is at most 2 ^ 62
abbrev pub LiesNearOrigin : BrickGrid → Type 0
LiesNearOrigin grid = LiesWithin (2 ^ 62) grid

-- the grid begins a whole number of words from the origin
pub record IsAligned (grid : BrickGrid) : Type 0 where
  pub x : (k : ℤ) × (grid.x ≡ eight k)
  pub y : (k : ℤ) × (grid.y ≡ eight k)

-- ---- a brick and the cells round it

-- a bit of a word, of the one in the west of it, or of the one in the east of it: bit 0 is the last of the western one
abbrev pub wide_bit : (west row east : ℕ) → ℕ → ℕ
wide_bit west row east zero = bit_at west 63
wide_bit west row east (suc x) = if nat_lt x 64 then bit_at row x else bit_at east 0

-- the rows of a brick and those beside it: row 0 is the last of the brick in the north, then come those of the brick, and the first of the one in the south
abbrev pub column_at : ℕ → List (List ℕ) → ℕ → ℕ → ℕ
column_at across bricks t zero = slice_index (get_or bricks (t - across) []) 15
column_at across bricks t (suc y) = if nat_lt y 16 then slice_index (get_or bricks t []) y else slice_index (get_or bricks (t + across) []) 0

-- the cells of a brick and those round it: (1, 1) is the brick's first
abbrev pub round_at : ℕ → List (List ℕ) → ℕ → ℕ → ℕ → ℕ
round_at across bricks t x y = wide_bit (column_at across bricks (t - 1) y) (column_at across bricks t y) (column_at across bricks (t + 1) y) x

-- the number at a place of a word, in binary
abbrev pub pair_at : WordPair → ℕ → ℕ
pair_at n x = bit_at n.ones x + 2 * bit_at n.twos x

abbrev pub count_at : Count ℕ → ℕ → ℕ
count_at n x = bit_at n.ones x + 2 * bit_at n.twos x + 4 * bit_at n.fours x + 8 * bit_at n.eights x

-- the cells of three columns of words, where (1, 1) is the first cell of the brick in the middle
abbrev pub round_cells : Round → ℕ → ℕ → ℕ
round_cells round x y = wide_bit (slice_index round.west y) (slice_index round.here y) (slice_index round.east y) x

-- the next state of the cell at (x + 1, y + 1): by a counting, and by a rule
abbrev pub counted_cell_at : Counting → (ℕ → ℕ → ℕ) → ℕ → ℕ → ℕ
counted_cell_at counting at x y = next_by_count counting.birth counting.survival (at (suc x) (suc y)) (sum_round counting.neighbourhood at x y)

abbrev pub next_cell_at : CellRule → (ℕ → ℕ → ℕ) → ℕ → ℕ → ℕ
next_cell_at (ByCounting counting) at x y = counted_cell_at counting at x y
next_cell_at (ByDiagram diagram) at x y = diagram_next diagram.nodes.items (nine_at at x y)

-- ---- masks as words

-- for each number up to 8 a word with the bit of the mask at each place
abbrev pub IsWordOfEach : ℕ → List ℕ → Type 0
IsWordOfEach mask words = (n x : ℕ) → n ≤ 8 → x < 64 → bit_at (slice_index words n) x ≡ bit_at mask n

-- the words of the masks of births and survivals
pub record AreWords (words : WordMasks) (counting : Counting) : Type 0 where
  pub born : IsWordOfEach counting.birth words.born
  pub stays : IsWordOfEach counting.survival words.stays

-- neither mask has a number but 2 and 3: 499 is the mask of the others up to 8
abbrev pub HasTwoAndThreeAlone : Counting → Type 0
HasTwoAndThreeAlone counting = bit_and (bit_or counting.birth counting.survival) 499 ≡ 0

-- ---- generations

-- the brick has others on all sides; those in the first and the last column are beside each other, one row off
pub record HasNeighbours (across count t : ℕ) : Type 0 where
  pub before : across < t
  pub behind : t + across + 1 < count

-- the brick of the new ones is the next generation of the one there and of those round it
pub record IsNextBrick (rule : CellRule) (across : ℕ) (old new : List (List ℕ)) (t : ℕ) : Type 0 where
  pub cells : (x y : ℕ) → x < 64 → y < 16 → row_cells (get_or new t []) x y ≡ next_cell_at rule (round_at across old t) x y

-- the brick and the cells round it are the same
pub record IsSameRound (across : ℕ) (old new : List (List ℕ)) (t : ℕ) : Type 0 where
  pub cells : (x y : ℕ) → x < 66 → y < 18 → round_at across new t x y ≡ round_at across old t x y

-- what changed of brick s isn't seen from brick t: not in it and not beside it
pub record IsUnseen (across s : ℕ) (old new : List ℕ) (t : ℕ) : Type 0 where
  pub here : t ≡ s → (y : ℕ) → y < 16 → slice_index new y ≡ slice_index old y
  pub north : t - across ≡ s → slice_index new 15 ≡ slice_index old 15
  pub south : t + across ≡ s → slice_index new 0 ≡ slice_index old 0
  pub west : t - 1 ≡ s → (y : ℕ) → y < 16 → bit_at (slice_index new y) 63 ≡ bit_at (slice_index old y) 63
  pub east : t + 1 ≡ s → (y : ℕ) → y < 16 → bit_at (slice_index new y) 0 ≡ bit_at (slice_index old y) 0
  pub north_west : t - 1 - across ≡ s → bit_at (slice_index new 15) 63 ≡ bit_at (slice_index old 15) 63
  pub north_east : t + 1 - across ≡ s → bit_at (slice_index new 15) 0 ≡ bit_at (slice_index old 15) 0
  pub south_west : t - 1 + across ≡ s → bit_at (slice_index new 0) 63 ≡ bit_at (slice_index old 0) 63
  pub south_east : t + 1 + across ≡ s → bit_at (slice_index new 0) 0 ≡ bit_at (slice_index old 0) 0

-- no cell of the brick is live
abbrev pub IsBlank : List ℕ → Type 0
IsBlank rows = (x y : ℕ) → x < 64 → y < 16 → row_cells rows x y ≡ 0

-- no cell is live in the brick and round it
abbrev pub IsBlankRound : ℕ → List (List ℕ) → ℕ → Type 0
IsBlankRound across bricks t = (x y : ℕ) → x < 66 → y < 18 → round_at across bricks t x y ≡ 0

-- each brick that has no others on some side is blank
abbrev pub HasBlankEdge : ℕ → List (List ℕ) → Type 0
HasBlankEdge across bricks = (t : ℕ) → (HasNeighbours across (length bricks) t → ⊥) → IsBlank (get_or bricks t [])

-- ---- bricks that are awake

-- the brick isn't in the list
abbrev pub IsNotIn : List ℕ → ℕ → Type 0
IsNotIn list t = (k : ℕ) → k < length list → slice_index list k ≡ t → ⊥

-- it isn't in the list from place n onwards
abbrev pub IsNotAhead : List ℕ → ℕ → ℕ → Type 0
IsNotAhead list n t = (k : ℕ) → n ≤ k → k < length list → slice_index list k ≡ t → ⊥

-- all bricks of the list have others on all sides
abbrev pub AllHaveNeighbours : (across count : ℕ) → List ℕ → Type 0
AllHaveNeighbours across count list = (k : ℕ) → k < length list → HasNeighbours across count (slice_index list k)

-- nothing was taken from the list, and what was put in are bricks that have others on all sides
pub record QueueGrows (across count : ℕ) (old new : List ℕ) : Type 0 where
  pub not_in : (t : ℕ) → IsNotIn new t → IsNotIn old t
  pub all : AllHaveNeighbours across count old → AllHaveNeighbours across count new

-- each brick with this mark is in the list
abbrev pub AreMarked : List ℕ → ℕ → List ℕ → Type 0
AreMarked marks mark list = (t : ℕ) → t < length marks → slice_index marks t ≡ mark → IsNotIn list t → ⊥

-- the bricks with this mark are in the list, and no mark is above it
pub record HasMarks (marks : List ℕ) (mark : ℕ) (list : List ℕ) : Type 0 where
  pub all : AreMarked marks mark list
  pub most : (t : ℕ) → slice_index marks t ≤ mark

-- the bricks that aren't in the list rest: what they were before is what they will be next
abbrev pub BricksRest : CellRule → ℕ → (now before : List (List ℕ)) → List ℕ → Type 0
BricksRest rule across now before list = (t : ℕ) → HasNeighbours across (length now) t → IsNotIn list t → IsNextBrick rule across now before t

-- ---- a generation of bricks

-- there are as many bricks before as now, those of the list have others on all sides, and those that aren't in it rest
pub record CanStep (rule : CellRule) (across : ℕ) (now before : List (List ℕ)) (awake : List ℕ) : Type 0 where
  pub room : across + length now < 2 ^ 63
  pub size : length before ≡ length now
  pub inside : AllHaveNeighbours across (length now) awake
  pub rest : BricksRest rule across now before awake

-- each brick with others on all sides is one generation on, the others are as before, and the queue has those that see other cells
-- than two generations before
pub record AreStepped (rule : CellRule) (across : ℕ) (now before later : List (List ℕ)) (old new : List ℕ) : Type 0 where
  pub next : (t : ℕ) → HasNeighbours across (length now) t → IsNextBrick rule across now later t
  pub same : (t : ℕ) → HasNeighbours across (length now) t → IsNotIn new t → IsSameRound across before later t
  pub grows : QueueGrows across (length now) old new
  pub others : (t : ℕ) → (HasNeighbours across (length now) t → ⊥) → get_or later t [] ≡ get_or before t []
