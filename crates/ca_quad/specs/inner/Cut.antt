-- Squares that are cut out of four that lie together.
use Rattle.std.specs.Prelude.{◌≡◌, ◌≢◌, ℕ, ◌+◌, ◌*◌, ◌<◌, ◌≤◌, ◌⊎◌, ◌^◌, ◌%◌, ◌-◌, nat_lt, if◌then◌else◌, List, [], ◌∷◌, slice_index, Option, Some, None}
use Rattle.std.specs.Map.{lookup}
use Rattle.ca_quad.specs.declared.{neighbours.Neighbours.Neighbours, node.Node.Node, store.cut.Offset.Offset}
use Rattle.ca_quad.specs.{contracts.neighbours.NeighboursPartialEq.TheImpl.eq-value, Squares.joined_cells, Squares.cell_of, Squares.level_of, Squares.square_of, Trees.AreFour, Trees.parts}
use Rattle.ca_quad.specs.inner.Window.{ShowsFrom}
use Rattle.ca_plane.specs.Prelude.{word_cells}

-- they are squares of this level
abbrev pub AreNeighbours : List Node → ℕ → Neighbours → Type 0
AreNeighbours nodes level four = AreFour nodes level four.nw four.ne four.sw four.se

-- the cells of four squares of this level
abbrev pub cells_of_four : List Node → ℕ → Neighbours → ℕ → ℕ → ℕ
cells_of_four nodes level four = joined_cells (2 ^ level) (cell_of nodes level four.nw) (cell_of nodes level four.ne) (cell_of nodes level four.sw) (cell_of nodes level four.se)

-- the square is as large as each of the four, and shows their cells from where the offset's remainders by its side lead
pub record IsCut (nodes : List Node) (offset : Offset) (squares : Neighbours) (id : ℕ) : Type 0 where
  pub level : ℕ
  pub four : AreNeighbours nodes level squares
  pub shows : ShowsFrom nodes id level (cells_of_four nodes level squares) (offset.x % 2 ^ level) (offset.y % 2 ^ level)

-- the square that is remembered for four, if there is one
abbrev pub cut_value : List (Neighbours × ℕ) → Neighbours → Option ℕ
cut_value values four = lookup (λ (other : Neighbours). (eq-value).it four other) values

-- each is cut out of its four
abbrev pub AreCuts : List Node → Offset → List (Neighbours × ℕ) → Type 0
AreCuts nodes offset values = (four : Neighbours) (id : ℕ) → cut_value values four ≡ Some id → IsCut nodes offset four id

-- each four for which a square was remembered have one
abbrev pub KeepCuts : List (Neighbours × ℕ) → List (Neighbours × ℕ) → Type 0
KeepCuts old new = (four : Neighbours) → cut_value old four ≢ None → cut_value new four ≢ None

-- what is cut out of the four is cut out of their parts: they have some, it isn't the first of them, and no word has their cells
pub record IsCutInParts (nodes : List Node) (offset : Offset) (squares : Neighbours) : Type 0 where
  pub level : ℕ
  pub four : AreNeighbours nodes level squares
  pub parted : 2 ≤ level
  pub apart : (offset.x % 2 ^ level ≢ 0) ⊎ (offset.y % 2 ^ level ≢ 0)
  pub wordless : level ≡ 3 → (x : ℕ) × (y : ℕ) × (2 ≤ cells_of_four nodes 3 squares x y)

-- sixteen squares of this level, row by row, show cells side by side
abbrev pub AreSixteen : List Node → ℕ → (ℕ → ℕ → ℕ) → List ℕ → Type 0
AreSixteen nodes level cells ids = (x y : ℕ) → x < 4 → y < 4 → ShowsFrom nodes (slice_index ids (4 * y + x)) level cells (x * 2 ^ level) (y * 2 ^ level)

-- sixteen cells, row by row
abbrev pub AreSixteenCells : (ℕ → ℕ → ℕ) → List ℕ → Type 0
AreSixteenCells cells states = (x y : ℕ) → x < 4 → y < 4 → slice_index states (4 * y + x) ≡ cells x y

-- the four of sixteen, row by row, of which this one is the north-western
abbrev pub neighbours_at : List ℕ → ℕ → Neighbours
neighbours_at ids first = record {
  nw = slice_index ids first;
  ne = slice_index ids (first + 1);
  sw = slice_index ids (first + 4);
  se = slice_index ids (first + 5);
}

-- in which half of a side the place lies
abbrev pub half_of : ℕ → ℕ → ℕ
half_of place half = if nat_lt place half then 0 else 1

-- four overlapping fours of sixteen squares, the north-western of which begins with this one
abbrev pub overlapping_fours : List ℕ → ℕ → Neighbours × Neighbours × Neighbours × Neighbours
overlapping_fours ids first = (neighbours_at ids first, neighbours_at ids (first + 1), neighbours_at ids (first + 4), neighbours_at ids (first + 5))

-- the parts of four squares, row by row
abbrev pub sixteen_parts : List Node → Neighbours → List ℕ
sixteen_parts nodes four =
    let nw = parts (square_of nodes four.nw) in
    let ne = parts (square_of nodes four.ne) in
    let sw = parts (square_of nodes four.sw) in
    let se = parts (square_of nodes four.se) in
    slice_index nw 0 ∷ slice_index nw 1 ∷ slice_index ne 0 ∷ slice_index ne 1 ∷ slice_index nw 2 ∷ slice_index nw 3 ∷ slice_index ne 2 ∷ slice_index ne 3
    ∷ slice_index sw 0 ∷ slice_index sw 1 ∷ slice_index se 0 ∷ slice_index se 1 ∷ slice_index sw 2 ∷ slice_index sw 3 ∷ slice_index se 2 ∷ slice_index se 3 ∷ []

-- the fours of their parts, out of which the parts of the square are cut that is cut out of the four
abbrev pub parts_of_four : List Node → Offset → Neighbours → Neighbours × Neighbours × Neighbours × Neighbours
parts_of_four nodes offset four =
    let level = level_of nodes four.nw in
    let half = 2 ^ (level - 1) in
    overlapping_fours (sixteen_parts nodes four) (4 * half_of (offset.y % 2 ^ level) half + half_of (offset.x % 2 ^ level) half)

-- it is one of these fours
abbrev pub IsOneOf : Neighbours × Neighbours × Neighbours × Neighbours → Neighbours → Type 0
IsOneOf fours four = (four ≡ fours.0) ⊎ ((four ≡ fours.1) ⊎ ((four ≡ fours.2) ⊎ (four ≡ fours.3)))

-- what is cut out of four squares is made of what is cut out of these, which are cut in parts themselves
abbrev pub IsCutPart : List Node → Offset → Neighbours → Neighbours → Type 0
IsCutPart nodes offset four part = IsOneOf (parts_of_four nodes offset four) part × IsCutInParts nodes offset part

-- the word has the cells of four squares of level 3 from this place onwards
pub record IsCutWord (nodes : List Node) (level : ℕ) (four : Neighbours) (place : Offset) (word : ℕ) : Type 0 where
  pub is_level : level ≡ 3
  pub has_cells : (x y : ℕ) → x < 8 → y < 8 → word_cells word x y ≡ cells_of_four nodes 3 four (place.x + x) (place.y + y)
