-- Words that are apgcodes (LifeWiki, "Apgcode"): a head, which says what an object is, and the representation of its cells.
use Rattle.std.specs.Prelude.{ℕ, List, [], ◌∷◌, length, Bool, ◌||◌, ◌==◌, if◌then◌else◌, Option, None, Some}
use Rattle.ca_plane.specs.Prelude.{letter, is_digit, front, rest}
use Rattle.ca_apgcode.specs.Prelude.{kind_letter}
use Rattle.ca_apgcode.specs.declared.object.ObjectKind.TheVariants.{StillLife, Oscillator, Spaceship}

-- the byte is the letter of a kind
abbrev pub is_kind_letter : ℕ → Bool
is_kind_letter b = (b == kind_letter StillLife) || ((b == kind_letter Oscillator) || (b == kind_letter Spaceship))

-- what follows the `_` at the front
abbrev pub after_mark : List ℕ → Option (List ℕ)
after_mark [] = None
after_mark (b ∷ bs) = if b == letter "_" then Some bs else None

-- what follows a number and `_`: the number is one or more decimal digits (leading zeros are our own)
abbrev pub after_number : List ℕ → Option (List ℕ)
after_number bytes = if length (front is_digit bytes) == 0 then None else after_mark (rest is_digit bytes)

-- what follows the letter of a kind, a number and `_`
abbrev pub after_kind : List ℕ → Option (List ℕ)
after_kind [] = None
after_kind (b ∷ bs) = if is_kind_letter b then after_number bs else None

-- what follows the head of an apgcode: `x`, the letter of a kind, a number and `_`
abbrev pub after_head : List ℕ → Option (List ℕ)
after_head [] = None
after_head (b ∷ bs) = if b == letter "x" then after_kind bs else None
