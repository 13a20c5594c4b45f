-- A text that is escaped part by part.
use Rattle.std.specs.Prelude.{◌≡◌, ℕ, ◌<◌, List, [], ◌∷◌, ◌++◌, length, Bool, false, ◌||◌}
use Rattle.ca_report.specs.declared.escaped.Part.{Part}
use Rattle.ca_report.specs.declared.escaped.Part.TheVariants.{Plain, Control, ControlPair}
use Rattle.ca_report.specs.Escaped.{is_control, is_control_pair, spelled_byte, escaped}

-- the text begins with a control character
abbrev pub begins_with_control : List ℕ → Bool
begins_with_control [] = false
begins_with_control (b ∷ []) = is_control b
begins_with_control (b ∷ c ∷ bs) = is_control_pair b c || is_control b

-- how a part is written
abbrev pub part_text : Part → List ℕ
part_text (Plain text) = text.now
part_text (Control b) = spelled_byte b
part_text (ControlPair b c) = spelled_byte b ++ spelled_byte c

-- the text is written as this part, and then as what is later, which is shorter
pub record IsSplit (text : List ℕ) (part : Part) (later : List ℕ) : Type 0 where
  pub written : escaped text ≡ part_text part ++ escaped later
  pub shorter : length later < length text
