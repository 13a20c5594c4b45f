-- What is written of a pattern file, on a terminal or elsewhere.
use Rattle.std.specs.Prelude.{◌≡◌, Bool, true, false, Option}
use Rattle.ca_draw.specs.declared.{drawing.ImageFormat.ImageFormat, view.Size.Size}
use Rattle.ca_draw.specs.declared.drawing.ImageFormat.TheVariants as image
use Rattle.ca_report.specs.declared.form.Form.{Form}
use Rattle.ca_report.specs.declared.form.Form.TheVariants.{Picture}
use Rattle.cafile.specs.Terminals.{request_on}
use Rattle.cafile.specs.declared.patterns.Asked.{Asked}

-- whether a picture is text
abbrev pub is_text : ImageFormat → Bool
is_text image.Text = true
is_text image.Pgm = false

-- what is written in this form: a picture on a terminal with this room, if that is known, in a size that fits, and with a caption where it is text; all else as it is asked for, and without a caption
abbrev pub asked_on : Form → (is_terminal : Bool) → (room : Option Size) → Asked
asked_on (Picture request) true room = record { form = Picture (request_on request room); captioned = is_text request.format }
asked_on form is_terminal room = record { form = form; captioned = false }

-- this is written, whether the output is a terminal or not
abbrev pub IsAskedFor : Form → Asked → Type 0
IsAskedFor form asked = (is_terminal : Bool) × (room : Option Size) × (asked ≡ asked_on form is_terminal room)
