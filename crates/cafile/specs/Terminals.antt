-- The size of a picture that fits a terminal.
use Rattle.std.specs.Prelude.{ℕ, ◌-◌, ◌<◌, min, max, List, Option, None, Some}
use Rattle.std.specs.Option.{option_or}
use Rattle.ca_quad.specs.declared.tree.Spot.{Spot}
use Rattle.ca_draw.specs.declared.{drawing.ImageFormat.ImageFormat, view.Size.Size, view.View.View}
use Rattle.ca_draw.specs.declared.drawing.ImageFormat.TheVariants.{Text, Pgm}
use Rattle.ca_report.specs.declared.form.DrawRequest.{DrawRequest}
use Rattle.ca_cli.specs.Words.{IsNumberText}

-- the word is `count` columns or lines: a number above 0
abbrev pub IsCountText : List ℕ → ℕ → Type 0
IsCountText word count = IsNumberText word count × (0 < count)

-- `count` columns or lines, brought within the limits of a picture
abbrev pub terminal_side : ℕ → ℕ
terminal_side count = max 1 (min count 8192)

-- the size of a picture that fits a terminal with `columns` columns and `lines` lines: two lines are left, one for the
-- caption and one for the prompt
abbrev pub room_in : (columns lines : ℕ) → Size
room_in columns lines = record { width = terminal_side columns; height = terminal_side (lines - 2) }

-- the size that a terminal with this room gives a picture in place of the usual one: none to an image, nor to a whole box at a scale that is asked for
abbrev pub room_for : ImageFormat → Option Spot → (scale : Option ℕ) → Option Size → Option Size
room_for Pgm corner scale room = None
room_for Text None (Some scale) room = None
room_for Text None None room = room
room_for Text (Some corner) scale room = room

-- the size of a picture: the one that is asked for, or else the one that the terminal gives
abbrev pub size_on : ImageFormat → View → (room : Option Size) → Option Size
size_on format view room = option_or view.size (room_for format view.corner view.scale room)

-- what is asked for of a picture, in this size
abbrev pub request_on : DrawRequest → (room : Option Size) → DrawRequest
request_on request room = record request { view = record request.view { size = size_on request.format request.view room } }
