-- Rules as MAP strings: the next state for each of the 512 neighbourhoods (Golly Help, QuickLife: MAP strings; LifeWiki, "MAP
-- string"; what is marked so is our own).
use Rattle.std.specs.Prelude.{◌≡◌, ℕ, ◌+◌, ◌-◌, ◌*◌, ◌/◌, ◌%◌, ◌^◌, List, ◌++◌, length, replicate, Bool, true, false, ◌==◌, ◌&&◌, ◌||◌, nat_le, IsTrue, codes, slice_index, if◌then◌else◌}
use Rattle.std.specs.List.{list_all}
use Rattle.ca_plane.specs.Prelude.{letter}
use Rattle.ca_rule.specs.Prelude.{has_colon}
use Rattle.ca_rule.specs.declared.fault.RuleFault.{RuleFault}
use Rattle.ca_rule.specs.declared.fault.RuleFault.TheVariants.{Bounded, Wakes, Unknown}

-- the byte is one of those from the first to the last
abbrev pub is_between : ℕ → ℕ → ℕ → Bool
is_between first last byte = nat_le first byte && nat_le byte last

-- a character of base64
abbrev pub is_base64 : ℕ → Bool
is_base64 b =
    is_between (letter "A") (letter "Z") b || is_between (letter "a") (letter "z") b || is_between (letter "0") (letter "9") b
    || (b == letter "+") || (b == letter "/")

-- the number that it stands for, below 64: `A` to `Z`, `a` to `z`, `0` to `9`, `+`, `/`
abbrev pub sextet : ℕ → ℕ
sextet b =
    if is_between (letter "A") (letter "Z") b then b - letter "A"
    else (if is_between (letter "a") (letter "z") b then b - letter "a" + 26
    else (if is_between (letter "0") (letter "9") b then b - letter "0" + 52
    else (if b == letter "+" then 62 else 63)))

-- the bit with this number: each character has six, the highest first
abbrev pub bit_of : List ℕ → ℕ → ℕ
bit_of characters number = (sextet (slice_index characters (number / 6)) / (2 ^ (5 - (number % 6)))) % 2

-- the number of a neighbourhood: north-west counts 256, north 128, north-east 64, west 32, the cell itself 16, east 8,
-- south-west 4, south 2 and south-east 1
abbrev pub number_of : List ℕ → ℕ
number_of nine =
    256 * slice_index nine 0 + 128 * slice_index nine 1 + 64 * slice_index nine 2
    + 32 * slice_index nine 3 + 16 * slice_index nine 4 + 8 * slice_index nine 5
    + 4 * slice_index nine 6 + 2 * slice_index nine 7 + slice_index nine 8

-- the next state of the centre of nine cells, each 0 or 1
abbrev pub map_next : List ℕ → List ℕ → ℕ
map_next characters nine = bit_of characters (number_of nine)

-- 86 characters of base64. They have 516 bits, of which the last four, which are of no neighbourhood, are 0 (that they have to
-- be is our own)
abbrev pub are_characters : List ℕ → Bool
are_characters characters = (length characters == 86) && (list_all is_base64 characters && (sextet (slice_index characters 85) % 16 == 0))

-- the text is a MAP string: `MAP` in capitals and these characters
pub record IsMap (text characters : List ℕ) : Type 0 where
  pub good : IsTrue (are_characters characters)
  pub form : text ≡ codes "MAP" ++ characters

-- the text names the rule, which leaves the empty plane empty
pub record NamesMap (text characters : List ℕ) : Type 0 where
  pub spells : IsMap text characters
  pub stays_empty : map_next characters (replicate 9 0) ≡ 0

-- the text is a MAP string that wakes the empty plane
abbrev pub IsWakingMap : List ℕ → Type 0
IsWakingMap text = (characters : List ℕ) × IsMap text characters × (map_next characters (replicate 9 0) ≡ 1)

-- the fault of a text that is no such MAP string: a bounded grid, else one that wakes the empty plane, else none
abbrev pub IsMapFault : List ℕ → RuleFault → Type 0
IsMapFault text Bounded = has_colon text ≡ true
IsMapFault text Wakes = (has_colon text ≡ false) × IsWakingMap text
IsMapFault text Unknown = (has_colon text ≡ false) × ((characters : List ℕ) → IsMap text characters → ⊥)
