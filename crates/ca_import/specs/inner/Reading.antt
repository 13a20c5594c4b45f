-- How a text is read, line by line.
use Rattle.std.specs.Prelude.{◌≡◌, ℕ, ◌+◌, ◌<◌, ◌≤◌, ℤ, pos, neg_ℤ, ◌≤ℤ◌, ◌<ℤ◌, List, if◌then◌else◌, Option, None, Some}
use Rattle.ca_plane.specs.declared.point.Point.{Point}
use Rattle.ca_plane.specs.Prelude.{bit_cell, range, most_cells, lines_of}
use Rattle.ca_import.specs.declared.{fault.ImportFault.ImportFault, reading.Reading.Reading, format.LineFormat.LineFormat}
use Rattle.ca_import.specs.declared.fault.ImportFault.TheVariants.{UnknownFormat, Syntax, NoCorner, Range, TooManyCells, Memory}
use Rattle.ca_import.specs.CellLines.{CellLine, next_row, row_after, said_state, next_rule, last_said_rule, is_live_in_line, live_count, said_count, HasPlace, IsLineInRange}
use Rattle.ca_import.specs.Import.{IsGoodLine, LinesSay, first_row}

-- a row may begin here: in the range of a file, or just south of it
pub record IsRowPlace (at : Point) : Type 0 where
  pub west : neg_ℤ (pos range) ≤ℤ at.x
  pub east : at.x <ℤ pos range
  pub north : neg_ℤ (pos range) ≤ℤ at.y
  pub south : at.y ≤ℤ pos range

abbrev pub IsPlace : Option Point → Type 0
IsPlace None = Unit {0}
IsPlace (Some at) = IsRowPlace at

-- what a reading always is: the next row begins at a place, and not too many live cells are named
pub record IsReady (reading : Reading) : Type 0 where
  pub place : IsPlace reading.place
  pub few : reading.count ≤ most_cells

-- one more line has said this, and is good
pub record Takes (said : CellLine) (old new : Reading) : Type 0 where
  pub good : IsGoodLine said old.place old.count
  pub place : new.place ≡ next_row said old.place
  pub count : new.count ≡ old.count + live_count said
  pub rule : new.rule ≡ next_rule said old.rule
  pub cells : (x y : ℤ) → bit_cell new.cells x y ≡ (if is_live_in_line said old.place x y then 1 else bit_cell old.cells x y)
  pub ready : IsReady new

-- why a line that says this isn't taken
abbrev pub IsRefused : ImportFault → CellLine → Option Point → ℕ → Type 0
IsRefused UnknownFormat said place count = ⊥
IsRefused Syntax said place count = ⊥
IsRefused NoCorner said place count = HasPlace said place → ⊥
IsRefused Range said place count = HasPlace said place × (IsLineInRange said place → ⊥)
IsRefused TooManyCells said place count = HasPlace said place × IsLineInRange said place × (most_cells < count + live_count said)
IsRefused Memory said place count = IsGoodLine said place count

-- what is kept once lines have said this
pub record IsReading (first : Option Point) (said : List CellLine) (reading : Reading) : Type 0 where
  pub ready : IsReady reading
  pub place : reading.place ≡ row_after first said
  pub count : reading.count ≡ said_count said
  pub rule : reading.rule ≡ last_said_rule None said
  pub cells : (x y : ℤ) → bit_cell reading.cells x y ≡ said_state first said x y

-- the lines of the bytes say this in the format, and it is what is kept
abbrev pub HoldsReading : LineFormat → List ℕ → Reading → Type 0
HoldsReading format bytes reading =
    (said : List CellLine) × LinesSay format (first_row format) 0 (lines_of bytes) said × IsReading (first_row format) said reading
