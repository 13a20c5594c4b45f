-- The lines of a rule file, and how each of them is spelled (Golly Help, File Formats: rule files and rule tables; what
-- is marked so is our own).
use Rattle.std.specs.Prelude.{◌≡◌, ℕ, List, [], ◌∷◌, ◌++◌, length, map, filter, max, Bool, true, false, not, ◌&&◌, ◌||◌, ◌==◌, nat_le, Option, Some, None, is_some, unwrap_or, option_map, option_and_then, find, codes, if◌then◌else◌}
use Rattle.std.specs.List.{list_all, list_any, enumerate_from}
use Rattle.std.specs.Option.{option_or}
use Rattle.std.specs.Str.{bytes_eq}
use Rattle.ca_plane.specs.Prelude.{is_blank, is_digit, Every, front, rest, trimmed, with_front, lines_of, words_of}
use Rattle.ca_rule.specs.declared.table.neighbourhood.{Neighbourhood.Neighbourhood, Symmetry.Symmetry}
use Rattle.ca_rule.specs.declared.table.neighbourhood.Neighbourhood.TheVariants.{VonNeumann, Moore, Hexagonal, OneDimensional}
use Rattle.ca_rule.specs.declared.table.neighbourhood.Symmetry.TheVariants.{Identity, Rotate4, Rotate4Reflect, ReflectHorizontal, Rotate8, Rotate8Reflect, Rotate2, Rotate3, Rotate6, Rotate6Reflect, Reflect, Permute}
use Rattle.ca_rule.specs.{Digits.are_digits, Digits.state_count, TableOrders.symmetries_of}

-- what a line says: the bytes before its first `#`, without the blanks at both ends
abbrev pub content_of : List ℕ → List ℕ
content_of line = trimmed (front (λ b. not (b == 35)) line)

-- a line that says something: its number in the text, and what it says
abbrev pub NumberedLine : Type 0
NumberedLine = ℕ × List ℕ

-- it says something
abbrev pub says_something : NumberedLine → Bool
says_something line = nat_le 1 (length line.1)

-- the lines of a text that say something; lines are counted from 1, those that say nothing too
abbrev pub lines_said : List ℕ → List NumberedLine
lines_said bytes = filter says_something (enumerate_from 1 (map content_of (lines_of bytes)))

-- the number of a text's last line; that of the empty text is 1 (our own)
abbrev pub last_line : List ℕ → ℕ
last_line bytes = max 1 (length (lines_of bytes))

-- the name in words `@RULE` and a name; what follows is ignored
abbrev pub rule_named : List (List ℕ) → Option (List ℕ)
rule_named [] = None
rule_named (w ∷ []) = None
rule_named (w ∷ name ∷ more) = if bytes_eq w (codes "@RULE") then Some name else None

-- the name that the line `@RULE` gives
abbrev pub rule_name : NumberedLine → Option (List ℕ)
rule_name line = rule_named (words_of line.1)

-- the first byte passes the test
abbrev pub begins_with : (ℕ → Bool) → List ℕ → Bool
begins_with test [] = false
begins_with test (b ∷ bs) = test b

-- a line that begins with `@` begins a section
abbrev pub begins_section : NumberedLine → Bool
begins_section line = begins_with (λ b. b == 64) line.1

-- the section is a table: its first word is `@TABLE`
abbrev pub begins_table : NumberedLine → Bool
begins_table line = bytes_eq (front (λ b. not (is_blank b)) line.1) (codes "@TABLE")

-- what follows the text with which the bytes begin
abbrev pub tail_after : List ℕ → List ℕ → Option (List ℕ)
tail_after [] bytes = Some bytes
tail_after (t ∷ ts) [] = None
tail_after (t ∷ ts) (b ∷ bs) = if t == b then tail_after ts bs else None

-- the words of settings
abbrev pub setting_words : List (List ℕ)
setting_words = codes "n_states" ∷ codes "neighborhood" ∷ codes "symmetries" ∷ []

-- the value of a setting, where the line is the one with this word: the word, `:`, and all after it (our own); blanks may
-- be round the `:`
abbrev pub setting : List ℕ → NumberedLine → Option (List ℕ)
setting word line = option_map (rest is_blank) (option_and_then (λ bytes. tail_after (codes ":") (rest is_blank bytes)) (tail_after word line.1))

-- the line is a setting
abbrev pub is_setting : NumberedLine → Bool
is_setting line = list_any (λ word. is_some (setting word line)) setting_words

-- the value that lines give to a setting, if they do
abbrev pub value_of : List ℕ → List NumberedLine → Option (List ℕ)
value_of word [] = None
value_of word (l ∷ ls) = option_or (setting word l) (value_of word ls)

-- how neighbourhoods are written
abbrev pub neighbourhood_name : Neighbourhood → List ℕ
neighbourhood_name VonNeumann = codes "vonNeumann"
neighbourhood_name Moore = codes "Moore"
neighbourhood_name Hexagonal = codes "hexagonal"
neighbourhood_name OneDimensional = codes "oneDimensional"

-- how symmetries are written
abbrev pub symmetry_name : Symmetry → List ℕ
symmetry_name Identity = codes "none"
symmetry_name Rotate4 = codes "rotate4"
symmetry_name Rotate4Reflect = codes "rotate4reflect"
symmetry_name ReflectHorizontal = codes "reflect_horizontal"
symmetry_name Rotate8 = codes "rotate8"
symmetry_name Rotate8Reflect = codes "rotate8reflect"
symmetry_name Rotate2 = codes "rotate2"
symmetry_name Rotate3 = codes "rotate3"
symmetry_name Rotate6 = codes "rotate6"
symmetry_name Rotate6Reflect = codes "rotate6reflect"
symmetry_name Reflect = codes "reflect"
symmetry_name Permute = codes "permute"

-- the neighbourhood that is written so
abbrev pub neighbourhood_named : List ℕ → Option Neighbourhood
neighbourhood_named bytes = find (λ n. bytes_eq (neighbourhood_name n) bytes) (VonNeumann ∷ Moore ∷ Hexagonal ∷ OneDimensional ∷ [])

-- the symmetry of the neighbourhood that is written so
abbrev pub symmetry_named : Neighbourhood → List ℕ → Option Symmetry
symmetry_named neighbourhood bytes = find (λ s. bytes_eq (symmetry_name s) bytes) (symmetries_of neighbourhood)

-- what the settings' values mean; none where a setting is missing or its value means nothing
abbrev pub states_set : List NumberedLine → Option ℕ
states_set settings = option_and_then state_count (value_of (codes "n_states") settings)

abbrev pub neighbourhood_set : List NumberedLine → Option Neighbourhood
neighbourhood_set settings = option_and_then neighbourhood_named (value_of (codes "neighborhood") settings)

abbrev pub symmetry_set : Neighbourhood → List NumberedLine → Option Symmetry
symmetry_set neighbourhood settings = option_and_then (symmetry_named neighbourhood) (value_of (codes "symmetries") settings)

-- a line that begins with `var` and a blank is that of a variable; `var` alone is none (our own)
abbrev pub begins_variable : NumberedLine → Bool
begins_variable line = unwrap_or (option_map (begins_with is_blank) (tail_after (codes "var") line.1)) false

-- a byte that may be in a name: no blank and none of `,` `{` `}` `=` `#` `:` `@`; bytes from 128 onwards may (our own)
abbrev pub is_name_byte : ℕ → Bool
is_name_byte b = not (is_blank b || list_any (λ c. b == c) (codes ",{}=#:@"))

-- a name: one byte or more, of which the first is no digit (our own)
abbrev pub is_name : List ℕ → Bool
is_name bytes = begins_with (λ b. not (is_digit b)) bytes && list_all is_name_byte bytes

-- a field is a number or the name of a variable
abbrev pub is_field : List ℕ → Bool
is_field bytes = are_digits bytes || is_name bytes

-- the parts between commas
abbrev pub comma_parts : List ℕ → List (List ℕ)
comma_parts [] = [] ∷ []
comma_parts (b ∷ bs) = if b == 44 then [] ∷ comma_parts bs else with_front b (comma_parts bs)

-- the fields between commas, without the blanks round them
abbrev pub fields_between : List ℕ → List (List ℕ)
fields_between bytes = map trimmed (comma_parts bytes)

-- the fields of a transition: those between commas, or each byte where there is no comma
abbrev pub fields_of : NumberedLine → List (List ℕ)
fields_of line = if list_any (λ b. b == 44) line.1 then fields_between line.1 else map (λ b. b ∷ []) line.1

-- the line of a variable: `var`, a blank, a name, `=`, `{`, fields with commas between, `}`; blanks may be between
pub record IsVariableLine (line : NumberedLine) (name : List ℕ) (fields : List (List ℕ)) : Type 0 where
  pub first : List ℕ
  pub second : List ℕ
  pub third : List ℕ
  pub inside : List ℕ
  pub begins : begins_variable line ≡ true
  pub first_blanks : Every is_blank first
  pub second_blanks : Every is_blank second
  pub third_blanks : Every is_blank third
  pub named : is_name name ≡ true
  pub fields_are : fields_between inside ≡ fields
  pub are_fields : list_all is_field fields ≡ true
  pub spelled : line.1 ≡ codes "var" ++ (first ++ (name ++ (second ++ (codes "=" ++ (third ++ (codes "{" ++ (inside ++ codes "}")))))))

-- a transition of this many slots, of which the result is the last
pub record IsTransitionLine (line : NumberedLine) (slots : ℕ) (fields : List (List ℕ)) : Type 0 where
  pub no_variable : begins_variable line ≡ false
  pub fields_are : fields_of line ≡ fields
  pub are_fields : list_all is_field fields ≡ true
  pub count : length fields ≡ slots
