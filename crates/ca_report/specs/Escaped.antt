-- How a path, a name or a rule text is written where a terminal may show it: its control characters are spelled out, so that none is obeyed (our own;
-- docs/CLAIMS.md).
use Rattle.std.specs.Prelude.{ℕ, ◌/◌, ◌%◌, List, [], ◌∷◌, ◌++◌, Bool, false, ◌&&◌, ◌||◌, nat_eq, nat_lt, nat_le, codes, if◌then◌else◌}
use Rattle.std.specs.Fmt.{digit_glyph}

-- a byte as `\x` and two hexadecimal digits
abbrev pub spelled_byte : ℕ → List ℕ
spelled_byte b = codes "\\x" ++ (digit_glyph false (b / 16) ∷ digit_glyph false (b % 16) ∷ [])

-- a control character of ASCII
abbrev pub is_control : ℕ → Bool
is_control b = nat_lt b 32 || nat_eq b 127

-- a control character of two bytes: U+0080 to U+009F are C2 80 to C2 9F in UTF-8
abbrev pub is_control_pair : ℕ → ℕ → Bool
is_control_pair b c = nat_eq b 194 && (nat_le 128 c && nat_le c 159)

-- a byte, spelled out where it is a control character
abbrev pub escaped_byte : ℕ → List ℕ
escaped_byte b = if is_control b then spelled_byte b else b ∷ []

-- the bytes of a text, with each byte of a control character spelled out
abbrev pub escaped : List ℕ → List ℕ
escaped [] = []
escaped (b ∷ []) = escaped_byte b
escaped (b ∷ c ∷ bs) = if is_control_pair b c then spelled_byte b ++ (spelled_byte c ++ escaped bs) else escaped_byte b ++ escaped (c ∷ bs)
