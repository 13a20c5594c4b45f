-- The parts of a header, read one after another from the front of bytes.
use Rattle.std.specs.Prelude.{ℕ, List, [], ◌∷◌, ◌==◌, Option, Some, None, if◌then◌else◌}
use Rattle.std.specs.Option.{option_and_then}
use Rattle.ca_plane.specs.Prelude.{is_blank, is_digit, front, rest}
use Rattle.ca_rle.specs.Header.{Part, Exactly, Number}

-- what is left after a text
abbrev pub strip : List ℕ → List ℕ → Option (List ℕ)
strip [] bytes = Some bytes
strip (t ∷ ts) [] = None
strip (t ∷ ts) (b ∷ bs) = if t == b then strip ts bs else None

-- what is left after digits, of which there is one at least
abbrev pub left_after : List ℕ → List ℕ → Option (List ℕ)
left_after [] more = None
left_after (d ∷ ds) more = Some more

-- what is left after a part
abbrev pub part_left : Part → List ℕ → Option (List ℕ)
part_left (Exactly text) bytes = strip text bytes
part_left Number bytes = left_after (front is_digit bytes) (rest is_digit bytes)

-- what is left after parts, with blanks before each and after the last
abbrev pub parts_left : List Part → List ℕ → Option (List ℕ)
parts_left [] bytes = Some (rest is_blank bytes)
parts_left (p ∷ ps) bytes = option_and_then (parts_left ps) (part_left p (rest is_blank bytes))
