-- What flags, texts and small numbers a command line has.
use Rattle.std.specs.Prelude.{◌≡◌, ◌≢◌, ℕ, ℤ, pos, ◌<◌, ◌≤◌, ◌^◌, ◌++◌, Bool, true, false, List, ◌∷◌, Option, None, Some, is_some, option_map, map, codes, String, string_bytes}
use Rattle.std.specs.Str.Parse.{IsNumeral, digits_value, without_leading_plus, without_leading_sign, signed_digits_value}
use Rattle.clap.specs.Matches.{found_of, matched_of, one_text, raw_values, first_value}
use Rattle.clap.specs.declared.parser.matches.ArgMatches.{ArgMatches}
use Rattle.ca_pattern.specs.declared.format.Format.{Format}
use Rattle.ca_pattern.specs.declared.format.Format.TheVariants.{Rle, Mc}
use Rattle.ca_draw.specs.declared.{view.Size.Size}
use Rattle.ca_quad.specs.declared.{tree.Spot.Spot}
use Rattle.ca_cli.specs.declared.{request.WordsFault.WordsFault}
use Rattle.ca_cli.specs.declared.request.WordsFault.TheVariants.{Memory}

-- a flag is set exactly where clap has the text `true` for it
abbrev pub IsFlag : ArgMatches → (name : List ℕ) → Bool → Type 0
IsFlag words name true = one_text (found_of words) name ≡ Some (codes "true")
IsFlag words name false = one_text (found_of words) name ≢ Some (codes "true")

-- clap found a value for this word
abbrev pub IsGiven : ArgMatches → (name : List ℕ) → Type 0
IsGiven words name = is_some (first_value (found_of words) name) ≡ true

-- where this word is there, it has a value
abbrev pub HasValueIfThere : ArgMatches → (name : List ℕ) → Type 0
HasValueIfThere words name = is_some (matched_of (found_of words) name) ≡ is_some (first_value (found_of words) name)

-- the fault is that an allocation failed
abbrev pub IsWantOfMemory : WordsFault → Type 0
IsWantOfMemory fault = fault ≡ Memory

-- all the texts of a word, in order
abbrev pub AreTextsOf : {A : Type 0} → ArgMatches → (name : List ℕ) → List (String A) → Type 0
AreTextsOf words name texts = option_map raw_values (matched_of (found_of words) name) ≡ Some (map string_bytes texts)

-- the text is this number below 2^8, in decimal digits, which a `+` may precede
abbrev pub IsByteText : List ℕ → ℕ → Type 0
IsByteText text number = IsNumeral 10 (without_leading_plus text) × (number ≡ digits_value 10 (without_leading_plus text)) × (number < 2 ^ 8)

-- the number below 2^8 after a word; none where the word isn't there, or has no such number after it
abbrev pub IsByteAfter : ArgMatches → (name : List ℕ) → Option ℕ → Type 0
IsByteAfter words name (Some number) = (text : List ℕ) × (one_text (found_of words) name ≡ Some text) × IsByteText text number
IsByteAfter words name None = (text : List ℕ) (number : ℕ) → one_text (found_of words) name ≡ Some text → IsByteText text number → ⊥

-- the format of `--to rle` or `--to mc`; none where neither is there
abbrev pub IsTarget : ArgMatches → Option Format → Type 0
IsTarget words (Some Rle) = first_value (found_of words) (codes "to") ≡ Some (codes "rle")
IsTarget words (Some Mc) = first_value (found_of words) (codes "to") ≡ Some (codes "mc")
IsTarget words None = (first_value (found_of words) (codes "to") ≢ Some (codes "rle")) × (first_value (found_of words) (codes "to") ≢ Some (codes "mc"))

-- the text is a whole number in decimal digits, which a sign may precede
abbrev pub IsWholeNumberText : List ℕ → ℤ → Type 0
IsWholeNumberText text number = IsNumeral 10 (without_leading_sign text) × (number ≡ signed_digits_value 10 text)

-- the text is two whole numbers with a comma between them
abbrev pub IsPairText : List ℕ → (first second : ℤ) → Type 0
IsPairText text first second = (before : List ℕ) × (after : List ℕ) × (text ≡ before ++ 44 ∷ after) × IsWholeNumberText before first × IsWholeNumberText after second

-- the cell of `--at X,Y`, none where that isn't there
abbrev pub IsCorner : ArgMatches → Option Spot → Type 0
IsCorner words (Some corner) = (text : List ℕ) × (first_value (found_of words) (codes "at") ≡ Some text) × IsPairText text corner.x corner.y
IsCorner words None = first_value (found_of words) (codes "at") ≡ None

-- the text is the width and the height of this size, with a comma between them; these are from 1 to 8192
abbrev pub IsSizeText : List ℕ → Size → Type 0
IsSizeText text size = IsPairText text (pos size.width) (pos size.height)
    × (1 ≤ size.width) × (size.width ≤ 8192) × (1 ≤ size.height) × (size.height ≤ 8192)

-- the size of `--size W,H`, none where that isn't there
abbrev pub IsSize : ArgMatches → Option Size → Type 0
IsSize words (Some size) = (text : List ℕ) × (first_value (found_of words) (codes "size") ≡ Some text) × IsSizeText text size
IsSize words None = first_value (found_of words) (codes "size") ≡ None
