-- What is read from the text of an isotropic rule is what it spells, and nothing else.
use Rattle.std.proofs.Common.{◌≡◌, ℕ, List, [], ◌++◌, true, Some, None, refl, sym, ap, ◌∙◌}
use Rattle.std.proofs.lemmas.List.{append-nil}
use Rattle.ca_rule.specs.Prelude.{lists_of}
use Rattle.ca_rule.specs.declared.hood.Hood.TheVariants.{Moore}
use Rattle.ca_rule.proofs.ReadInwards.{IsTakenApart, taken_apart}
use Rattle.ca_rule.proofs.SpelledDigits.{first_list, second_list, formed}
use Rattle.ca_rule_files.specs.Prelude.{is_kind_list, SpellsIsotropicRule}
use Rattle.ca_rule_files.proofs.ListBytes.{listed-kinds}

-- a text that spells a rule is taken apart into its lists
pub kinds-apart : (text birth survival : List ℕ) → SpellsIsotropicRule text birth survival → IsTakenApart text birth survival Moore
kinds-apart text birth survival is = taken_apart text birth survival Moore (listed-kinds birth is.birth_kinds) (listed-kinds survival is.survival_kinds) is.form

-- and read as them
pub read : (text birth survival : List ℕ) → SpellsIsotropicRule text birth survival → lists_of text ≡ Some (birth, survival)
read text birth survival is =
    let t = kinds-apart text birth survival is in
    ap lists_of (t.whole ∙ ap (λ l. t.body ++ l) t.is_suffix ∙ append-nil t.body) ∙ t.lists_are

-- what is read is spelled
pub spelled : (text birth survival : List ℕ) → lists_of text ≡ Some (birth, survival) → is_kind_list birth ≡ true → is_kind_list survival ≡ true → SpellsIsotropicRule text birth survival
spelled text birth survival r b s = record { birth_kinds = b; survival_kinds = s; form = formed text text [] birth survival Moore (sym (append-nil text)) refl r }

-- a text that is read as none spells none
pub spells-none : (text birth survival : List ℕ) → lists_of text ≡ None → SpellsIsotropicRule text birth survival → ⊥
spells-none text birth survival none is = let e = read text birth survival is in cc

-- what it spells are the lists that are read
pub spells-read : (text birth survival b s : List ℕ) → lists_of text ≡ Some (birth, survival) → SpellsIsotropicRule text b s → (b ≡ birth) × (s ≡ survival)
spells-read text birth survival b s r is =
    let lists : Some (b, s) ≡ Some (birth, survival) = sym (read text b s is) ∙ r in
    (ap first_list lists, ap second_list lists)

-- so it spells one pair of lists at most
pub spells-once : (text b s c t : List ℕ) → SpellsIsotropicRule text b s → SpellsIsotropicRule text c t → (b ≡ c) × (s ≡ t)
spells-once text b s c t h k = spells-read text c t b s (read text c t k) h
