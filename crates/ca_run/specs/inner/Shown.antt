-- Squares that show a plane from some place onwards (our own).
use Rattle.std.specs.Prelude.{ℕ, ◌≤◌, ◌^◌, ℤ, List, [], ◌∷◌, Option, Some, None}
use Rattle.ca_plane.specs.Prelude.{ShowsPlane}
use Rattle.ca_quad.specs.declared.node.Node.{Node}
use Rattle.ca_quad.specs.Prelude.{IsOf, cell_of}
use Rattle.ca_bricks.specs.declared.trio.{Trio.Trio, Rows.Rows}
use Rattle.ca_bricks.specs.Prelude.{side, QuartersShow, PairShows, TrioShows, RowsShow}

-- the id names a square of this level, which shows the plane from (a, b) onwards
pub record ShowsAt (nodes : List Node) (id level : ℕ) (p : ℤ → ℤ → ℕ) (a b : ℤ) : Type 0 where
  pub is_square : IsOf nodes id level
  pub looks : ShowsPlane (2 ^ level) (cell_of nodes level id) p a b

-- four squares of this level show it
abbrev pub FourShow : List Node → (level nw ne sw se : ℕ) → (ℤ → ℤ → ℕ) → ℤ → ℤ → Type 0
FourShow nodes level nw ne sw se p a b = QuartersShow (λ id. ShowsAt nodes id level) (side level) nw ne sw se p a b

-- three squares of this level are there
pub record AreThree (nodes : List Node) (level : ℕ) (three : Trio ℕ) : Type 0 where
  pub west : IsOf nodes three.west level
  pub middle : IsOf nodes three.middle level
  pub east : IsOf nodes three.east level

-- three squares of this level show it
abbrev pub ThreeShow : List Node → (level : ℕ) → Trio ℕ → (ℤ → ℤ → ℕ) → ℤ → ℤ → Type 0
ThreeShow nodes level three p a b = TrioShows (λ id. ShowsAt nodes id level) (side level) three p a b

-- nine squares of this level are there
pub record AreNine (nodes : List Node) (level : ℕ) (rows : Rows ℕ) : Type 0 where
  pub north : AreThree nodes level rows.north
  pub middle : AreThree nodes level rows.middle
  pub south : AreThree nodes level rows.south

-- nine squares of this level show it
abbrev pub NineShow : List Node → (level : ℕ) → Rows ℕ → (ℤ → ℤ → ℕ) → ℤ → ℤ → Type 0
NineShow nodes level rows p a b = RowsShow (λ id. ShowsAt nodes id level) (side level) rows p a b

-- two squares of this level show it
abbrev pub TwoShow : List Node → (level west east : ℕ) → (ℤ → ℤ → ℕ) → ℤ → ℤ → Type 0
TwoShow nodes level west east p a b = PairShows (λ id. ShowsAt nodes id level) (side level) west east p a b

-- how many generations the first half of a leap goes: none, or 2 ^ j
abbrev pub generations : Option ℕ → ℕ
generations None = 0
generations (Some j) = 2 ^ j

-- they aren't too many for a centre of squares of level part_level + 2
abbrev pub IsTimely : ℕ → Option ℕ → Type 0
IsTimely part_level None = Unit {0}
IsTimely part_level (Some j) = j ≤ part_level

-- the sixteen cells of a square of 4 by 4, row by row
abbrev pub sixteen : (ℕ → ℕ → ℕ) → List ℕ
sixteen f =
    f 0 0 ∷ f 1 0 ∷ f 2 0 ∷ f 3 0
    ∷ f 0 1 ∷ f 1 1 ∷ f 2 1 ∷ f 3 1
    ∷ f 0 2 ∷ f 1 2 ∷ f 2 2 ∷ f 3 2
    ∷ f 0 3 ∷ f 1 3 ∷ f 2 3 ∷ f 3 3 ∷ []
