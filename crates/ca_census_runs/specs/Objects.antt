-- What is written of an object of a census: its label, and its line in a list (our own; docs/CLAIMS.md).
use Rattle.std.specs.Prelude.{ℕ, List, [], ◌∷◌, ◌++◌, Option, None, Some, Vec, codes, decimal}
use Rattle.std.specs.declared.alloc.Global.{Global}
use Rattle.std.specs.Fmt.{signed_decimal}
use Rattle.ca_plane.specs.declared.point.Bounds.{Bounds}
use Rattle.ca_text.specs.declared.kind.Kind.{Kind}
use Rattle.ca_text.specs.declared.kind.Kind.TheVariants.{Still}
use Rattle.ca_text.specs.Prelude.{keyword_of, words_after_name, spaced}
use Rattle.ca_identify_lines.specs.Prelude.{cells_word}
use Rattle.ca_census.specs.declared.entry.CensusObject.{CensusObject}

-- what an object is: `still life`, `oscillator P` or `spaceship P DX DY`. Objects are of no other kind
abbrev pub kind_words : Kind → List ℕ
kind_words Still = codes "still life"
kind_words kind = keyword_of kind ++ spaced (words_after_name [] kind)

-- how many cells it has, as `5 cells`
abbrev pub size_words : ℕ → List ℕ
size_words cells = decimal cells ++ cells_word cells

-- the label of objects that have no code, as `oscillator 2 of 3 cells`
abbrev pub label_of : Kind → (cells : ℕ) → List ℕ
label_of kind cells = kind_words kind ++ (codes " of " ++ size_words cells)

-- an object's code, where it has one; else what it is, and of how many cells
abbrev pub code_or_label : Kind → (cells : ℕ) → Option (Vec ℕ Global) → List ℕ
code_or_label kind cells None = label_of kind cells
code_or_label kind cells (Some code) = code.items

-- the label of an object
abbrev pub label : CensusObject → List ℕ
label object = code_or_label object.kind object.cells object.code

-- where the upper left corner of its box is, as ` at -3,12`
abbrev pub place_words : Bounds → List ℕ
place_words bounds = codes " at " ++ (signed_decimal bounds.x0 ++ (44 ∷ signed_decimal bounds.y0))

-- its code, and a blank after it, where it has one
abbrev pub code_words : Option (Vec ℕ Global) → List ℕ
code_words None = []
code_words (Some code) = code.items ++ 32 ∷ []

-- the line of an object in a list, as `xp2_7 oscillator 2 at -3,12: 3 cells`
abbrev pub object_line : CensusObject → List ℕ
object_line object =
    code_words object.code ++ (kind_words object.kind ++ (place_words object.bounds ++ (codes ": " ++ (size_words object.cells ++ 10 ∷ []))))
