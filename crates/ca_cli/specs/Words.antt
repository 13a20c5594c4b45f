-- What the words of a command line are taken for.
use Rattle.std.specs.Prelude.{◌≡◌, ℕ, ◌*◌, ◌<◌, ◌^◌, min, max, List, Option, None, Some, option_map, unwrap_or, String, string_bytes}
use Rattle.std.specs.Str.Parse.{IsNumeral, digits_value, without_leading_plus}
use Rattle.clap.specs.Matches.{found_of, one_text, first_value}
use Rattle.clap.specs.declared.parser.matches.ArgMatches.{ArgMatches}
use Rattle.ca_plane.specs.Prelude.{most_memo, most_generations}

-- the text after a word, none where the word isn't there
abbrev pub IsTextAfter : {A : Type 0} → ArgMatches → (name : List ℕ) → Option (String A) → Type 0
IsTextAfter words name text = option_map string_bytes text ≡ first_value (found_of words) name

-- the text is this number below 2^64, in decimal digits, which a `+` may precede
abbrev pub IsNumberText : List ℕ → ℕ → Type 0
IsNumberText text number = IsNumeral 10 (without_leading_plus text) × (number ≡ digits_value 10 (without_leading_plus text)) × (number < 2 ^ 64)

-- the number after a word; none where the word isn't there, or has no number after it
abbrev pub IsNumberAfter : ArgMatches → (name : List ℕ) → Option ℕ → Type 0
IsNumberAfter words name (Some number) = (text : List ℕ) × (one_text (found_of words) name ≡ Some text) × IsNumberText text number
IsNumberAfter words name None = (text : List ℕ) (number : ℕ) → one_text (found_of words) name ≡ Some text → IsNumberText text number → ⊥

-- the entries of a memo: 262144 unless set. A number outside its limits is brought within them, and so are the two below that have some
abbrev pub memo_of : Option ℕ → ℕ
memo_of set = max 1 (min (unwrap_or set 262144) most_memo)

-- how many squares a long run may keep: 16384 for each megabyte, of which there are 1024 unless set
abbrev pub squares_of : Option ℕ → ℕ
squares_of set = 16384 * max 1 (min (unwrap_or set 1024) 147456)

-- the units of work: 2^64 - 1 unless set
abbrev pub work_of : Option ℕ → ℕ
work_of set = unwrap_or set 18446744073709551615

-- by how many generations a pattern is advanced: none unless set
abbrev pub generations_of : Option ℕ → ℕ
generations_of set = min (unwrap_or set 0) most_generations

-- the scale of a picture: 0 where a zoom is asked for
abbrev pub scale_of : (zoom scale : Option ℕ) → Option ℕ
scale_of None scale = scale
scale_of (Some zoom) scale = Some 0
