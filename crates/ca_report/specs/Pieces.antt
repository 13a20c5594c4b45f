-- Texts in pieces.
use Rattle.std.specs.Prelude.{ℕ, List, decimal}
use Rattle.std.specs.Fmt.{signed_decimal}
use Rattle.std.specs.List.{flat_map}
use Rattle.ca_report.specs.declared.pieces.Piece.{Piece}
use Rattle.ca_report.specs.declared.pieces.Piece.TheVariants.{Text, Escaped, Number, Integer}
use Rattle.ca_report.specs.Escaped.{escaped}

-- the bytes of a piece
abbrev pub piece_text : Piece → List ℕ
piece_text (Text text) = text.now
piece_text (Escaped text) = escaped text.now
piece_text (Number number) = decimal number
piece_text (Integer number) = signed_decimal number

-- the bytes of all pieces, in order
abbrev pub pieces_text : List Piece → List ℕ
pieces_text pieces = flat_map piece_text pieces
