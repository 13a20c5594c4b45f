-- The code of an object, that is, of a still life, an oscillator or a spaceship (LifeWiki, "Apgcode").
use Rattle.std.specs.Prelude.{◌≡◌, ◌≢◌, ℕ, zero, suc, ◌<◌, ℤ, pos, ◌+ℤ◌, ◌-ℤ◌, ◌<ℤ◌, ◌≤ℤ◌, List, [], ◌∷◌, ◌++◌, codes, decimal, Option, Some, None}
use Rattle.ca_plane.specs.Prelude.{letter, from_corner}
use Rattle.ca_apgcode.specs.{Grids.GridCells, Grids.IsGrid, Grids.IsLeastGrid, Grids.cell, Representation.IsRepresentation, Order.Precedes, Orientations.turned}
use Rattle.ca_apgcode.specs.declared.{orientation.Orientation.Orientation, object.ObjectKind.ObjectKind}
use Rattle.ca_apgcode.specs.declared.object.ObjectKind.TheVariants.{StillLife, Oscillator, Spaceship}

-- 1 for a live cell, whatever its state, and 0 for a dead one
abbrev pub live : ℕ → ℕ
live zero = 0
live (suc state) = 1

-- the box is the smallest one round the live cells of a plane, at most 40 by 40, and has just these; its north-western
-- cell is at (left, top)
pub record IsBoxRound (cells : ℤ → ℤ → ℕ) (box : GridCells) : Type 0 where
  pub left : ℤ
  pub top : ℤ
  pub is_grid : IsGrid box
  pub is_least : IsLeastGrid box
  pub same : (x y : ℤ) → live (cells x y) ≡ from_corner (cell box) (x -ℤ left) (y -ℤ top)

-- the text is the representation of a plane's smallest box
abbrev pub IsTextOf : (ℤ → ℤ → ℕ) → List ℕ → Type 0
IsTextOf cells text = (box : GridCells) × IsBoxRound cells box × IsRepresentation (cell box) box.height text

-- each live cell lies within the 40 by 40 cells from (left, top) on
abbrev pub LiesWithin : (ℤ → ℤ → ℕ) → (left top : ℤ) → Type 0
LiesWithin cells left top = (x y : ℤ) → cells x y ≢ 0 → (left ≤ℤ x) × (x <ℤ (left +ℤ pos 40)) × (top ≤ℤ y) × (y <ℤ (top +ℤ pos 40))

-- it is that of the plane in one of the eight orientations
abbrev pub IsTurnedText : (ℤ → ℤ → ℕ) → List ℕ → Type 0
IsTurnedText cells text = (orientation : Orientation) × IsTextOf (turned orientation cells) text

-- it is that of one of the first `count` phases. A phase that doesn't fit into 40 by 40 cells has none
abbrev pub IsPhaseText : (ℕ → ℤ → ℤ → ℕ) → (count : ℕ) → List ℕ → Type 0
IsPhaseText phases count text = (n : ℕ) × (n < count) × IsTurnedText (phases n) text

-- the text is one of these, and none of these comes before it
pub record IsLeastAmong (IsOne : List ℕ → Type 0) (least : List ℕ) : Type 0 where
  pub is_one : IsOne least
  pub is_first : (text : List ℕ) → IsOne text → Precedes text least → ⊥

-- the least text of the first `count` phases, if one of them fits into 40 by 40 cells
abbrev pub IsLeastOfPhases : (ℕ → ℤ → ℤ → ℕ) → (count : ℕ) → Option (List ℕ) → Type 0
IsLeastOfPhases phases count (Some least) = IsLeastAmong (IsPhaseText phases count) least
IsLeastOfPhases phases count None = (text : List ℕ) → IsPhaseText phases count text → ⊥

-- the letter of a kind
abbrev pub kind_letter : ObjectKind → ℕ
kind_letter StillLife = letter "s"
kind_letter Oscillator = letter "p"
kind_letter Spaceship = letter "q"

-- the code with a number and a text, as `xp2_7`; and without a text, as `ov_p2`
abbrev pub code_text : ObjectKind → ℕ → Option (List ℕ) → List ℕ
code_text kind number (Some text) = letter "x" ∷ kind_letter kind ∷ [] ++ decimal number ++ codes "_" ++ text
code_text kind number None = codes "ov_" ++ kind_letter kind ∷ [] ++ decimal number

-- the code, with this number, of an object that has `count` phases. An object's own number is that of the live cells of
-- a still life, and otherwise the least period
pub record IsObjectCode (kind : ObjectKind) (number : ℕ) (phases : ℕ → ℤ → ℤ → ℕ) (count : ℕ) (code : List ℕ) : Type 0 where
  pub text : Option (List ℕ)
  pub is_least : IsLeastOfPhases phases count text
  pub whole : code ≡ code_text kind number text
