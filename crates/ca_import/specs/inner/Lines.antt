-- What a line says, as the code has it.
use Rattle.std.specs.Prelude.{ℕ, List, Option}
use Rattle.ca_plane.specs.declared.point.Point.{Point}
use Rattle.ca_plane.specs.Prelude.{IsInteger, IsInRange}
use Rattle.ca_import.specs.declared.{cell_line.Line.Line, fault.ImportFault.ImportFault}
use Rattle.ca_import.specs.declared.cell_line.Line.TheVariants as line
use Rattle.ca_import.specs.declared.fault.ImportFault.TheVariants.{Syntax, Range}
use Rattle.ca_import.specs.CellLines.{CellLine, Nothing, LiveCell, Row, Corner, Rule, HasPlace, IsLineInRange}

-- the two words write the x and the y of a point
pub record WritePoint (x y : List ℕ) (at : Point) : Type 0 where
  pub x_is : IsInteger x at.x
  pub y_is : IsInteger y at.y

-- they write none, or one that is out of range
abbrev pub HavePointFault : List ℕ → List ℕ → ImportFault → Type 0
HavePointFault x y Syntax = (at : Point) → WritePoint x y at → ⊥
HavePointFault x y Range = (at : Point) × WritePoint x y at × (IsInRange at → ⊥)
HavePointFault x y fault = ⊥

-- what the code's line says
abbrev pub said_of : Line → CellLine
said_of line.Nothing = Nothing
said_of (line.LiveCell at) = LiveCell at
said_of (line.Row cells) = Row cells.now
said_of (line.Corner at) = Corner at
said_of (line.Rule rule) = Rule rule

-- a live cell and a corner are in range
abbrev pub IsBounded : CellLine → Type 0
IsBounded Nothing = Unit {0}
IsBounded (LiveCell at) = IsInRange at
IsBounded (Row cells) = Unit {0}
IsBounded (Corner at) = IsInRange at
IsBounded (Rule rule) = Unit {0}

-- the code's line says this by a relation, and it is bounded
pub record IsSaid (Says : CellLine → Type 0) (l : Line) : Type 0 where
  pub says : Says (said_of l)
  pub bounded : IsBounded (said_of l)

-- the fault of a line by itself: it says nothing by the relation, or something that is out of range wherever it stands
abbrev pub IsAloneFault : (CellLine → Type 0) → ImportFault → Type 0
IsAloneFault Says Syntax = (s : CellLine) → Says s → ⊥
IsAloneFault Says Range = (s : CellLine) × Says s × ((place : Option Point) → HasPlace s place × (IsLineInRange s place → ⊥))
IsAloneFault Says fault = ⊥
