-- The representation of the cells in a box as a text, by which apgsearch and Catagolue name still lifes, oscillators
-- and spaceships (LifeWiki, "Apgcode").
use Rattle.std.specs.Prelude.{◌≡◌, ℕ, ◌+◌, ◌-◌, ◌*◌, ◌/◌, ◌<◌, ◌≤◌, nat_lt, ◌==◌, if◌then◌else◌, List, [], ◌∷◌, ◌++◌, length, map, replicate, codes, slice_index, slice_index_or}
use Rattle.std.specs.List.{flat_map, join_with_byte, AllByRecursion}
use Rattle.ca_plane.specs.Prelude.{letter}
use Rattle.ca_apgcode.specs.Grids.{GridCells, IsGrid, IsLeastGrid, cell}

-- the five cells of a column from a row down, as a binary number with the northern cell as 1
abbrev pub five_cells : (ℕ → ℕ → ℕ) → ℕ → ℕ → ℕ
five_cells cells x y = cells x y + 2 * cells x (y + 1) + 4 * cells x (y + 2) + 8 * cells x (y + 3) + 16 * cells x (y + 4)

-- the digit of a number below 36: `0` to `9`, and `a` to `z` from 10 onwards
abbrev pub digit : ℕ → ℕ
digit n = if nat_lt n 10 then letter "0" + n else letter "a" + (n - 10)

-- columns without cells, and the column with cells after them
pub record Step : Type 0 where
  -- how many are without cells
  pub gap : ℕ
  -- the cells of the other one as a number
  pub column : ℕ

-- a column has five cells, and one of them is live; there are 40 columns at most
pub record IsStep (step : Step) : Type 0 where
  pub gap : step.gap ≤ 39
  pub some : 1 ≤ step.column
  pub most : step.column ≤ 31

-- what is written for columns without cells: `0` for one, `w` for two, `x` for three, and for more `y` and the digit of
-- their number less 4
abbrev pub gap_text : ℕ → List ℕ
gap_text gap =
    if gap == 0 then []
    else (if gap == 1 then codes "0" else (if gap == 2 then codes "w" else (if gap == 3 then codes "x" else letter "y" ∷ digit (gap - 4) ∷ [])))

abbrev pub step_text : Step → List ℕ
step_text step = gap_text step.gap ++ digit step.column ∷ []

-- the columns of a step, from the west
abbrev pub step_columns : Step → List ℕ
step_columns step = replicate step.gap 0 ++ step.column ∷ []

-- the steps give the columns of the five rows from this one down; those after the last step have no cells
pub record IsStrip (cells : ℕ → ℕ → ℕ) (y : ℕ) (steps : List Step) : Type 0 where
  pub each : AllByRecursion IsStep steps
  pub columns : (x : ℕ) → slice_index (flat_map step_columns steps) x ≡ five_cells cells x y

-- the text is the representation of the cells in a box of this height: strips of five rows from the north, with a `z`
-- between each two. Where the height is no multiple of five, dead cells lie below
pub record IsRepresentation (cells : ℕ → ℕ → ℕ) (height : ℕ) (text : List ℕ) : Type 0 where
  pub strips : List (List Step)
  pub count : length strips ≡ (height + 4) / 5
  pub each : (i : ℕ) → i < length strips → IsStrip cells (5 * i) (slice_index_or strips i [])
  pub whole : text ≡ join_with_byte (letter "z") (map (flat_map step_text) strips)

-- the text is the representation of the cells in their smallest box, as an apgcode has it
pub record IsCode (grid : GridCells) (text : List ℕ) : Type 0 where
  pub is_grid : IsGrid grid
  pub is_least : IsLeastGrid grid
  pub is_representation : IsRepresentation (cell grid) grid.height text
