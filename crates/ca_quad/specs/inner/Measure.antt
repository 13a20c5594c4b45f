-- What a walk over a square finds out of it from the same of its parts.
use Rattle.std.specs.Prelude.{◌≡◌, ℕ, ◌+◌, ◌≤◌, ◌^◌, ◌⊎◌, List, Some}
use Rattle.ca_quad.specs.declared.node.Node.{Node}
use Rattle.ca_quad.specs.{Added.IsPartOf, Squares.IsOf, Squares.joined_cells, Squares.cell_of, Squares.IsParted, Squares.square_of, SquareValues.square_value, Trees.IsIn, inner.Numbered.IsNumberOfNode}

-- beyond this side every cell is 0
abbrev pub EndsWithin : ℕ → (ℕ → ℕ → ℕ) → Type 0
EndsWithin side cells = (x y : ℕ) → (side ≤ x) ⊎ (side ≤ y) → cells x y ≡ 0

-- the value is the measure of four squares of this side together, which have these
abbrev pub IsJoined : {V : Type 0} → ((ℕ → ℕ → ℕ) → ℕ → V → Type 0) → ℕ → V → V → V → V → V → Type 0
IsJoined is side a b c d all =
    (nw ne sw se : ℕ → ℕ → ℕ) → EndsWithin side nw → EndsWithin side ne → EndsWithin side sw → EndsWithin side se → is nw side a → is ne side b → is sw side c → is se side d
    → is (joined_cells side nw ne sw se) (side + side) all

-- the value is the measure of a square
abbrev pub IsMeasureOf : {V : Type 0} → ((ℕ → ℕ → ℕ) → ℕ → V → Type 0) → List Node → ℕ → V → Type 0
IsMeasureOf is nodes id value = (level : ℕ) → IsOf nodes id level → is (cell_of nodes level id) (2 ^ level) value

-- each value is the measure of one of these squares
abbrev pub AreMeasures : {V : Type 0} → ((ℕ → ℕ → ℕ) → ℕ → V → Type 0) → List Node → List (ℕ × V) → Type 0
AreMeasures is nodes values = (id : ℕ) (value : _) → square_value values id ≡ Some value → IsIn nodes id × IsMeasureOf is nodes id value

-- the square's parts are looked at: it has some, and no number tells all its cells
abbrev pub IsLookedUp : List Node → ℕ → Type 0
IsLookedUp nodes id = IsParted (square_of nodes id) × ((n : ℕ) → ¬ IsNumberOfNode nodes id n)

-- one square is a part of the other, and its own parts are looked at
abbrev pub IsLookedUpPart : List Node → ℕ → ℕ → Type 0
IsLookedUpPart nodes whole part = IsPartOf (square_of nodes whole) part × IsLookedUp nodes part
