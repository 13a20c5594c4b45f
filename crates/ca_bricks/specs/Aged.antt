-- Grids of cells that age before they are dead, as planes of bits (our own): one of the live cells, and one for each binary digit of the number of
-- generations after which a dying cell is dead.
use Rattle.std.specs.Prelude.{◌≡◌, ℕ, ◌+◌, ◌-◌, ◌*◌, ◌<◌, ◌≤◌, ◌^◌, ℤ, List, [], ◌∷◌, length, get_or, min, max, nat_lt, if◌then◌else◌}
use Rattle.std.specs.List.{All}
use Rattle.std.specs.Int.{bit_at}
use Rattle.ca_plane.specs.Prelude.{liveness, row_cells}
use Rattle.ca_plane.specs.declared.counting.Ageing.{Ageing}
use Rattle.ca_bricks.specs.declared.{aged.AgedGrid.AgedGrid, grid.BrickGrid.BrickGrid}
use Rattle.ca_bricks.specs.Bricks.{IsGrid, GridShows, IsInPlace, HasNeighbours, AllHaveNeighbours, IsNotIn, QueueGrows, IsSameRound, IsBlank, IsBlankRound, HasMargin, round_at, counted_cell_at}

-- ---- states as bits

-- after how many generations a cell of this state is dead, where it is dying; else 0
abbrev pub remaining : (states state : ℕ) → ℕ
remaining states state = if nat_lt 1 state then states - state else 0

-- a binary digit of that number, the lowest is digit 0
abbrev pub dying_digit : (states k state : ℕ) → ℕ
dying_digit states k state = bit_at (remaining states state) k

-- ---- grids

-- the grid lies in the same place, and has as many bricks
pub record IsBeside (live digit : BrickGrid) : Type 0 where
  pub place : IsInPlace live digit
  pub size : length digit.bricks.items ≡ length live.bricks.items

-- all planes of digits lie where that of the live cells lies
abbrev pub AreBeside : AgedGrid → Type 0
AreBeside grid = All (IsBeside grid.live) grid.dying.items

-- the plane of the live cells is a grid, those of the digits lie where it lies, and there are as many states as a rule may have
pub record IsAgedGrid (grid : AgedGrid) : Type 0 where
  pub least : 2 ≤ grid.states
  pub most : grid.states ≤ 256
  pub live : IsGrid grid.live
  pub beside : AreBeside grid

-- two grids have their planes in the same places, and as many of them
pub record AreAlike (grid other : AgedGrid) : Type 0 where
  pub live : IsBeside grid.live other.live
  pub dying : All (IsBeside grid.live) other.dying.items
  pub digits : length other.dying.items ≡ length grid.dying.items
  pub states : other.states ≡ grid.states

-- the planes show the bits of a plane of `grid.states` states, all of whose numbers the digits can tell
pub record AgedGridShows (grid : AgedGrid) (m : ℕ) (p : ℤ → ℤ → ℕ) : Type 0 where
  pub least : 2 ≤ grid.states
  pub most : grid.states ≤ 256
  pub low : (x y : ℤ) → p x y < grid.states
  pub enough : grid.states < 2 + 2 ^ length grid.dying.items
  pub beside : AreBeside grid
  pub margin : HasMargin m grid.live.across grid.live.down p grid.live.x grid.live.y
  pub live : GridShows grid.live m (λ x y. liveness (p x y))
  pub dying : (k : ℕ) (d : BrickGrid) → k < length grid.dying.items → GridShows (get_or grid.dying.items k d) m (λ x y. dying_digit grid.states k (p x y))

-- ---- one generation

-- the number of a cell of brick t, by its digits
abbrev pub number_at : List BrickGrid → (t x y : ℕ) → ℕ
number_at [] t x y = 0
number_at (digit ∷ more) t x y = row_cells (get_or digit.bricks.items t []) x y + 2 * number_at more t x y

-- whether the counting says of the cell of a brick that it lives next
abbrev pub lives_at : Ageing → AgedGrid → (t x y : ℕ) → ℕ
lives_at ageing grid t x y = counted_cell_at ageing.counting (round_at grid.live.across grid.live.bricks.items t) x y

-- 1 where it is live and begins to die
abbrev pub begins_at : Ageing → AgedGrid → (t x y : ℕ) → ℕ
begins_at ageing grid t x y = row_cells (get_or grid.live.bricks.items t []) x y - lives_at ageing grid t x y

-- a digit of its number one generation later: that of a number one less, or of the states without two where it begins
-- to die
abbrev pub aged_digit : (states k number begins : ℕ) → ℕ
aged_digit states k number begins = max (bit_at (number - 1) k) (min begins (bit_at (states - 2) k))

-- brick t of the later planes is one generation on: a cell lives that the counting says so of and that isn't dying, and the numbers count down
pub record IsNextAged (ageing : Ageing) (now later : AgedGrid) (t : ℕ) : Type 0 where
  pub live : (x y : ℕ) → x < 64 → y < 16 → row_cells (get_or later.live.bricks.items t []) x y ≡ lives_at ageing now t x y - number_at now.dying.items t x y
  pub dying : (k : ℕ) (d : BrickGrid) → k < length now.dying.items → (x y : ℕ) → x < 64 → y < 16
      → row_cells (get_or (get_or later.dying.items k d).bricks.items t []) x y
      ≡ aged_digit ageing.states k (number_at now.dying.items t x y) (begins_at ageing now t x y)

-- the live cells of a brick and round it are the same, and so are its own digits
pub record IsSameAged (across : ℕ) (old new : AgedGrid) (t : ℕ) : Type 0 where
  pub live : IsSameRound across old.live.bricks.items new.live.bricks.items t
  pub dying : (k : ℕ) (d : BrickGrid) → k < length old.dying.items → (x y : ℕ) → x < 64 → y < 16
      → row_cells (get_or (get_or new.dying.items k d).bricks.items t []) x y
      ≡ row_cells (get_or (get_or old.dying.items k d).bricks.items t []) x y

-- the bricks that aren't in the list rest: what they were before is what they will be next
abbrev pub AgedBricksRest : Ageing → (now before : AgedGrid) → List ℕ → Type 0
AgedBricksRest ageing now before list =
    (t : ℕ) → HasNeighbours now.live.across (length now.live.bricks.items) t → IsNotIn list t → IsNextAged ageing now before t

-- the brick has no live and no dying cell
pub record IsBlankAged (grid : AgedGrid) (t : ℕ) : Type 0 where
  pub live : IsBlank (get_or grid.live.bricks.items t [])
  pub dying : (k : ℕ) (d : BrickGrid) → k < length grid.dying.items → IsBlank (get_or (get_or grid.dying.items k d).bricks.items t [])

-- it has none, and no cell round it is live
pub record IsBlankRoundAged (grid : AgedGrid) (t : ℕ) : Type 0 where
  pub live : IsBlankRound grid.live.across grid.live.bricks.items t
  pub dying : (k : ℕ) (d : BrickGrid) → k < length grid.dying.items → IsBlank (get_or (get_or grid.dying.items k d).bricks.items t [])

-- each brick that has no others on some side is blank
abbrev pub HasBlankEdges : AgedGrid → Type 0
HasBlankEdges grid = (t : ℕ) → (HasNeighbours grid.live.across (length grid.live.bricks.items) t → ⊥) → IsBlankAged grid t

-- ---- a generation of bricks

-- before and now there are the same planes, the bricks of the list have others on all sides, and those that aren't in it rest
pub record CanAge (ageing : Ageing) (now before : AgedGrid) (awake : List ℕ) : Type 0 where
  pub room : now.live.across + length now.live.bricks.items < 2 ^ 63
  pub beside : AreBeside now
  pub alike : AreAlike now before
  pub inside : AllHaveNeighbours now.live.across (length now.live.bricks.items) awake
  pub rest : AgedBricksRest ageing now before awake

-- each brick with others on all sides is one generation on, the others are as before, and the queue has those that see or have other cells
-- than two generations before
pub record HaveAged (ageing : Ageing) (now before later : AgedGrid) (old new : List ℕ) : Type 0 where
  pub alike : AreAlike now later
  pub next : (t : ℕ) → HasNeighbours now.live.across (length now.live.bricks.items) t → IsNextAged ageing now later t
  pub same : (t : ℕ) → HasNeighbours now.live.across (length now.live.bricks.items) t → IsNotIn new t → IsSameAged now.live.across before later t
  pub grows : QueueGrows now.live.across (length now.live.bricks.items) old new
  pub others : (t : ℕ) → (HasNeighbours now.live.across (length now.live.bricks.items) t → ⊥)
      → get_or later.live.bricks.items t [] ≡ get_or before.live.bricks.items t []
  pub other_digits : (k : ℕ) (d : BrickGrid) → k < length now.dying.items → (t : ℕ) → (HasNeighbours now.live.across (length now.live.bricks.items) t → ⊥)
      → get_or (get_or later.dying.items k d).bricks.items t [] ≡ get_or (get_or before.dying.items k d).bricks.items t []
