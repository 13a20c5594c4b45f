-- Isotropic rules in Hensel's notation, as `B2-a/S12` (Golly Help, QuickLife: non-totalistic rules; LifeWiki, "Isotropic
-- non-totalistic rule"; what is marked so is our own).
use Rattle.std.specs.Prelude.{◌≡◌, ℕ, ◌+◌, ◌-◌, List, [], ◌∷◌, length, Bool, true, false, not, ◌==◌, ◌&&◌, ◌||◌, nat_le, IsTrue, Option, Some, None, slice_index, replicate, if◌then◌else◌}
use Rattle.std.specs.List.{list_all, list_any}
use Rattle.ca_plane.specs.Prelude.{letter, is_digit, is_end_or, with_front}
use Rattle.ca_rule.specs.Prelude.{SpellsLists, has_colon}
use Rattle.ca_rule.specs.declared.fault.RuleFault.{RuleFault}
use Rattle.ca_rule.specs.declared.fault.RuleFault.TheVariants.{Bounded, Wakes, Unknown}
use Rattle.ca_rule.specs.declared.hood.Hood.TheVariants.{Moore}
use Rattle.ca_rule_files.specs.declared.kinds.Kind.{Kind}
use Rattle.ca_rule_files.specs.Kinds.{kinds_with, live_neighbours, letter_of}

-- the byte is this letter, which is given in lower case, in either case (our own)
abbrev pub is_letter : ℕ → ℕ → Bool
is_letter lower byte = (byte == lower) || (byte + 32 == lower)

-- the kinds with this many live neighbours, of which it has the letters; 5, 6 and 7 have those of 3, 2 and 1
abbrev pub lettered_kinds : ℕ → List Kind
lettered_kinds count = if nat_le count 4 then kinds_with count else kinds_with (8 - count)

-- the byte is a letter that the number of live neighbours has
abbrev pub has_letter : ℕ → ℕ → Bool
has_letter count byte = list_any (λ (k : Kind). is_letter k.letter byte) (lettered_kinds count)

-- what may follow a digit: nothing, letters, or `-` and letters
abbrev pub are_letters : ℕ → List ℕ → Bool
are_letters count [] = true
are_letters count (b ∷ bs) = if b == letter "-" then nat_le 1 (length bs) && list_all (has_letter count) bs else list_all (has_letter count) (b ∷ bs)

-- a part of a list of kinds: a digit from `0` to `8`, and what follows it
abbrev pub is_part : List ℕ → Bool
is_part [] = false
is_part (d ∷ letters) = (nat_le (letter "0") d && nat_le d (letter "8")) && are_letters (d - letter "0") letters

-- bytes cut before each digit
abbrev pub parts : List ℕ → List (List ℕ)
parts [] = []
parts (b ∷ bs) = if is_end_or is_digit bs then (b ∷ []) ∷ parts bs else with_front b (parts bs)

-- a list of kinds, as `2-a3ij`: parts in any order, each as often as one likes, or none (the order and repetition are our own)
abbrev pub is_kind_list : List ℕ → Bool
is_kind_list list = list_all is_part (parts list)

-- the letter is among these
abbrev pub is_named : List ℕ → Option ℕ → Bool
is_named letters None = false
is_named letters (Some lower) = list_any (is_letter lower) letters

-- what follows a digit picks the kind of this letter: nothing picks all, letters pick those, and after `-` all others
abbrev pub picks : List ℕ → Option ℕ → Bool
picks [] kind = true
picks (b ∷ bs) kind = if b == letter "-" then not (is_named bs kind) else is_named (b ∷ bs) kind

-- the part has the kind with this many live neighbours and this letter
abbrev pub part_has : ℕ → Option ℕ → List ℕ → Bool
part_has count kind [] = false
part_has count kind (d ∷ letters) = (d == letter "0" + count) && picks letters kind

-- a list has the kind of the neighbourhood
abbrev pub has_kind : List ℕ → List ℕ → Bool
has_kind list nine = list_any (part_has (live_neighbours nine) (letter_of nine)) (parts list)

-- a dead centre is born where the birth kinds have its neighbourhood, a live one survives where the survival kinds have it
abbrev pub isotropic_next : List ℕ → List ℕ → List ℕ → ℕ
isotropic_next birth survival nine =
    if slice_index nine 4 == 0 then (if has_kind birth nine then 1 else 0)
    else (if slice_index nine 4 == 1 then (if has_kind survival nine then 1 else 0) else 0)

-- a dead cell without live neighbours is born
abbrev pub gives_birth_alone : List ℕ → Bool
gives_birth_alone birth = has_kind birth (replicate 9 0)

-- the text spells a rule with these birth and survival kinds: `B`, birth kinds, an optional `/`, `S`, survival kinds; or
-- survival first; or survival kinds, `/`, birth kinds. The letters B and S are of either case
pub record SpellsIsotropicRule (text birth survival : List ℕ) : Type 0 where
  pub birth_kinds : IsTrue (is_kind_list birth)
  pub survival_kinds : IsTrue (is_kind_list survival)
  pub form : SpellsLists text birth survival Moore

-- the text spells no rule, with birth without live neighbours or without
abbrev pub SpellsNoIsotropicRule : List ℕ → Type 0
SpellsNoIsotropicRule text = (birth survival : List ℕ) → SpellsIsotropicRule text birth survival → ⊥

-- the text names the rule, which leaves the empty plane empty
pub record NamesIsotropicRule (text birth survival : List ℕ) : Type 0 where
  pub spells : SpellsIsotropicRule text birth survival
  pub stays_empty : gives_birth_alone birth ≡ false

-- the text spells a rule that wakes the empty plane
abbrev pub SpellsWakingKinds : List ℕ → Type 0
SpellsWakingKinds text = (birth : List ℕ) × (survival : List ℕ) × SpellsIsotropicRule text birth survival × (gives_birth_alone birth ≡ true)

-- the fault of a text that names no isotropic rule: a bounded grid, else a rule that wakes the empty plane, else none
abbrev pub IsIsotropicRuleFault : List ℕ → RuleFault → Type 0
IsIsotropicRuleFault text Bounded = has_colon text ≡ true
IsIsotropicRuleFault text Wakes = (has_colon text ≡ false) × SpellsWakingKinds text
IsIsotropicRuleFault text Unknown = (has_colon text ≡ false) × SpellsNoIsotropicRule text
