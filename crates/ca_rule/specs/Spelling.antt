-- How a B/S rule is spelled (Golly Help, QuickLife; which texts are accepted besides `B3/S23` and `23/3` is our own),
-- how it is printed (our own), and what is wrong with a text that spells none.
use Rattle.std.specs.Prelude.{◌≡◌, ℕ, ◌+◌, List, [], ◌∷◌, ◌++◌, Bool, true, false, ◌==◌, IsTrue, ◌⊎◌, filter, map, codes}
use Rattle.ca_plane.specs.Prelude.{letter}
use Rattle.std.specs.List.{list_any}
use Rattle.ca_rule.specs.Counts.{most_of, is_count, has_digit, counts_of, are_digits_up_to}
use Rattle.ca_rule.specs.declared.{bs_rule.BsRule.BsRule, counts.Counts.Counts, hood.Hood.Hood, fault.RuleFault.RuleFault}
use Rattle.ca_rule.specs.declared.hood.Hood.TheVariants.{Moore, VonNeumann, Hex}
use Rattle.ca_rule.specs.declared.fault.RuleFault.TheVariants.{Bounded, Wakes, Unknown}

-- the byte is this letter, which is given in upper case, in either case
abbrev pub IsLetter : ℕ → ℕ → Type 0
IsLetter upper byte = (byte ≡ upper) ⊎ (byte ≡ upper + 32)

-- nothing after the digits for all eight neighbours, `V` for the four that share a side, `H` for six
abbrev pub IsSuffix : Hood → List ℕ → Type 0
IsSuffix Moore suffix = suffix ≡ []
IsSuffix VonNeumann suffix = (byte : ℕ) × IsLetter (letter "V") byte × (suffix ≡ byte ∷ [])
IsSuffix Hex suffix = (byte : ℕ) × IsLetter (letter "H") byte × (suffix ≡ byte ∷ [])

-- a `/` or nothing
abbrev pub IsOptionalSlash : List ℕ → Type 0
IsOptionalSlash bytes = (bytes ≡ []) ⊎ (bytes ≡ codes "/")

-- a letter and digits, an optional `/`, another letter and digits, and the suffix: as `B3/S23`, `s23b3`, `B2S34H`
abbrev pub IsLettered : ℕ → ℕ → List ℕ → List ℕ → List ℕ → Hood → Type 0
IsLettered first second text digits later hood = (a : ℕ) × (b : ℕ) × (slash : List ℕ) × (suffix : List ℕ)
    × IsLetter first a × IsLetter second b × IsOptionalSlash slash × IsSuffix hood suffix
    × (text ≡ a ∷ (digits ++ (slash ++ b ∷ (later ++ suffix))))

-- survival digits, `/`, birth digits, and the suffix: as `23/3`
abbrev pub IsUnlettered : List ℕ → List ℕ → List ℕ → Hood → Type 0
IsUnlettered text survival birth hood = (suffix : List ℕ) × IsSuffix hood suffix × (text ≡ survival ++ (codes "/" ++ (birth ++ suffix)))

-- the text spells these birth and survival lists, in one of the three forms
abbrev pub SpellsLists : List ℕ → List ℕ → List ℕ → Hood → Type 0
SpellsLists text birth survival hood =
    IsLettered (letter "B") (letter "S") text birth survival hood ⊎ (IsLettered (letter "S") (letter "B") text survival birth hood ⊎ IsUnlettered text survival birth hood)

-- the text spells a rule with these birth and survival digits over this neighbourhood, no digit above its size
pub record SpellsBsRule (text birth survival : List ℕ) (hood : Hood) : Type 0 where
  pub birth_digits : IsTrue (are_digits_up_to (most_of hood) birth)
  pub survival_digits : IsTrue (are_digits_up_to (most_of hood) survival)
  pub form : SpellsLists text birth survival hood

-- `:` begins the size of a bounded grid
abbrev pub has_colon : List ℕ → Bool
has_colon text = list_any (λ b. b == letter ":") text

-- a text that spells lists of birth and survival digits names a rule of these counts: it leaves the empty plane empty
pub record NamesCounts (Spells : List ℕ → List ℕ → Type 0) (birth_counts survival_counts : Counts) : Type 0 where
  pub birth : List ℕ
  pub survival : List ℕ
  pub spells : Spells birth survival
  pub stays_empty : has_digit birth 0 ≡ false
  pub birth_is : birth_counts ≡ counts_of birth
  pub survival_is : survival_counts ≡ counts_of survival

-- a text that spells birth digits, survival digits and one thing more spells a rule with birth on 0
abbrev pub SpellsWaking : {A : Type 0} → (List ℕ → List ℕ → A → Type 0) → Type 0
SpellsWaking {A} Spells = (birth : List ℕ) × (survival : List ℕ) × (more : A) × Spells birth survival more × (has_digit birth 0 ≡ true)

-- it spells no rule, with birth on 0 or without
abbrev pub SpellsNone : {A : Type 0} → (List ℕ → List ℕ → A → Type 0) → Type 0
SpellsNone {A} Spells = (birth survival : List ℕ) (more : A) → Spells birth survival more → ⊥

-- the fault of a text that names no rule, by what it spells: a bounded grid, else a rule that wakes the empty plane, else none
abbrev pub IsSpellingFault : {A : Type 0} → (List ℕ → List ℕ → A → Type 0) → List ℕ → RuleFault → Type 0
IsSpellingFault Spells text Bounded = has_colon text ≡ true
IsSpellingFault Spells text Wakes = (has_colon text ≡ false) × SpellsWaking Spells
IsSpellingFault Spells text Unknown = (has_colon text ≡ false) × SpellsNone Spells

-- the text names the rule
abbrev pub NamesBsRule : List ℕ → BsRule → Type 0
NamesBsRule text rule = NamesCounts (λ birth survival. SpellsBsRule text birth survival rule.hood) rule.birth rule.survival

-- the text spells no rule, with birth on 0 or without
abbrev pub SpellsNoBsRule : List ℕ → Type 0
SpellsNoBsRule text = SpellsNone (SpellsBsRule text)

-- the fault of a text that names no rule
abbrev pub IsBsRuleFault : List ℕ → RuleFault → Type 0
IsBsRuleFault text = IsSpellingFault (SpellsBsRule text) text

-- the digits of counts, rising, each once
abbrev pub digits_of : Counts → List ℕ
digits_of counts = map (λ n. letter "0" + n) (filter (is_count counts) (0 ∷ 1 ∷ 2 ∷ 3 ∷ 4 ∷ 5 ∷ 6 ∷ 7 ∷ 8 ∷ []))

-- the suffix that is printed
abbrev pub suffix_of : Hood → List ℕ
suffix_of Moore = []
suffix_of VonNeumann = codes "V"
suffix_of Hex = codes "H"

-- the printed form: `B`, the birth digits, `/S`, the survival digits, and the suffix
abbrev pub printed_bs_rule : Hood → Counts → Counts → List ℕ
printed_bs_rule hood birth survival = codes "B" ++ (digits_of birth ++ (codes "/S" ++ (digits_of survival ++ suffix_of hood)))
