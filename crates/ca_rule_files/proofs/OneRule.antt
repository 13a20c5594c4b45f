-- A text names one rule at most, and no rule where it has a fault.
use Rattle.std.proofs.Common.{◌≡◌, ℕ, List, [], ◌∷◌, true, false, not, Some, refl, sym, ap, subst, ◌∙◌, inl, inr, arith, replicate, ◌++◌}
use Rattle.std.specs.List.{list_all}
use Rattle.std.proofs.lemmas.Bool.{false≢true}
use Rattle.std.proofs.lemmas.List.{append-nil}
use Rattle.ca_plane.specs.Prelude.{Every, is_digit, front, rest}
use Rattle.ca_rule.specs.Prelude.{SpellsBsRule, has_colon, SpellsGenerationsRule, stands_in_list, tail_after_slash, lists_around_slash, lists_of}
use Rattle.ca_rule.specs.declared.{hood.Hood.Hood, fault.RuleFault.RuleFault}
use Rattle.ca_rule.specs.declared.hood.Hood.TheVariants.{Moore}
use Rattle.ca_rule.specs.declared.fault.RuleFault.TheVariants.{Bounded, Wakes, Unknown}
use Rattle.ca_rule.proofs.GenerationsRead as generations
use Rattle.ca_rule.proofs.Meaning.{names-once, names-faultless}
use Rattle.ca_rule.proofs.Rules.{same-equal, equal-generations}
use Rattle.ca_rule.proofs.ReadInwards.{digits-of, spelled-apart}
use Rattle.ca_rule.proofs.SpelledDigits.{both-some, swapped-some}
use Rattle.ca_rule_files.specs.Prelude.{is_part, is_kind_list, SpellsIsotropicRule, gives_birth_alone, IsMap, map_next, TextRule, Bs, Isotropic, Map, Generations, NamesTextRule, IsTextRuleFault}
use Rattle.ca_rule_files.proofs.KindTexts.{read, spells-once}
use Rattle.ca_rule_files.proofs.ListBytes.{listed-kinds}
use Rattle.ca_rule_files.proofs.Parts.{first_part}
use Rattle.ca_rule_files.proofs.Maps.{same_characters}
use Rattle.ca_rule_files.proofs.TextBytes.{IsText, no-colon}
use Rattle.ca_rule_files.proofs.Names.{bs-text, isotropic-text, map-text, generations-text}

-- ---- no MAP string spells another rule

-- the first byte, or another where there is none
abbrev first_of : List ℕ → ℕ
first_of [] = 0
first_of (b ∷ bs) = b

-- a list that begins with this byte
abbrev begins : ℕ → List ℕ → Type 0
begins b list = (bs : List ℕ) × (list ≡ b ∷ bs)

-- lists that are read from M onwards, with it in the survival list
reads-m : (bs birth survival : List ℕ) → lists_of (77 ∷ bs) ≡ Some (birth, survival) → begins 77 survival
reads-m bs birth survival e =
    let survivals = front stands_in_list (77 ∷ bs) in
    let parts = both-some survivals (tail_after_slash (rest stands_in_list (77 ∷ bs))) (survival, birth) (swapped-some (lists_around_slash (77 ∷ bs)) birth survival e) in
    (front stands_in_list bs, sym parts.0)

lists-no-map : (text body suffix birth survival characters : List ℕ) → text ≡ body ++ suffix → lists_of body ≡ Some (birth, survival) → (begins 77 survival → ⊥) → IsMap text characters → ⊥
lists-no-map text [] suffix birth survival characters w e never m = cc
lists-no-map text (b ∷ bs) suffix birth survival characters w e never m =
    let same : 77 ≡ b = ap first_of (sym m.form ∙ w) in
    never (reads-m bs birth survival (ap (λ x. lists_of (x ∷ bs)) same ∙ e))

no-digits : (digits : List ℕ) → Every is_digit digits → begins 77 digits → ⊥
no-digits digits all b = false≢true (subst (λ l. list_all is_digit l ≡ true) b.1 all)

no-kinds : (list : List ℕ) → is_kind_list list ≡ true → begins 77 list → ⊥
no-kinds list is b =
    let first = first_part 77 b.0 (front (λ b. not (is_digit b)) b.0) (rest (λ b. not (is_digit b)) b.0) refl refl in
    false≢true (ap (list_all is_part) (sym first) ∙ subst (λ l. is_kind_list l ≡ true) b.1 is)

bs-no-map : (text birth survival characters : List ℕ) (hood : Hood) → SpellsBsRule text birth survival hood → IsMap text characters → ⊥
bs-no-map text birth survival characters hood is m =
    let t = spelled-apart text birth survival hood is in
    lists-no-map text t.body t.suffix birth survival characters t.whole t.lists_are (no-digits survival (digits-of hood survival is.survival_digits)) m

kinds-no-map : (text birth survival characters : List ℕ) → SpellsIsotropicRule text birth survival → IsMap text characters → ⊥
kinds-no-map text birth survival characters is m = lists-no-map text text [] birth survival characters (sym (append-nil text)) (read text birth survival is) (no-kinds survival is.survival_kinds) m

generations-no-map : (text survival birth characters : List ℕ) (states : ℕ) → SpellsGenerationsRule text survival birth states → IsMap text characters → ⊥
generations-no-map text survival birth characters states is m =
    lists-no-map text text [] (birth ++ (47 ∷ is.number)) survival characters (sym (append-nil text)) (generations.two-lists text survival birth states is) (no-digits survival (digits-of Moore survival is.survival_digits)) m

-- ---- no Generations rule is spelled by another text

kinds-no-generations : (text birth survival s b : List ℕ) (states : ℕ) → SpellsIsotropicRule text birth survival → SpellsGenerationsRule text s b states → ⊥
kinds-no-generations text birth survival s b states is g = generations.other-lists text s b states g birth survival (read text birth survival is) (listed-kinds birth is.birth_kinds)

bs-no-generations : (text birth survival s b : List ℕ) (hood : Hood) (states : ℕ) → SpellsBsRule text birth survival hood → SpellsGenerationsRule text s b states → ⊥
bs-no-generations text birth survival s b hood states is g = generations.other-notation text s b states g birth survival hood is

-- ---- one rule

pub one-text-rule : (text : List ℕ) (x y : TextRule) → NamesTextRule text x → NamesTextRule text y → x ≡ y
one-text-rule text (Bs r) (Bs s) h k = ap Bs (same-equal r s (names-once text r s h k))
one-text-rule text (Bs r) (Isotropic birth survival) h k = absurd (k.0 h.birth h.survival r.hood h.spells)
one-text-rule text (Bs r) (Map characters) h k = absurd (bs-no-map text h.birth h.survival characters r.hood h.spells k.spells)
one-text-rule text (Isotropic birth survival) (Bs s) h k = absurd (h.0 k.birth k.survival s.hood k.spells)
one-text-rule text (Isotropic b s) (Isotropic c t) h k = let e = spells-once text b s c t h.1.spells k.1.spells in λ i. Isotropic (e.0 i) (e.1 i)
one-text-rule text (Isotropic birth survival) (Map characters) h k = absurd (kinds-no-map text birth survival characters h.1.spells k.spells)
one-text-rule text (Map characters) (Bs s) h k = absurd (bs-no-map text k.birth k.survival characters s.hood k.spells h.spells)
one-text-rule text (Map characters) (Isotropic birth survival) h k = absurd (kinds-no-map text birth survival characters k.1.spells h.spells)
one-text-rule text (Map some) (Map others) h k = ap Map (same_characters text others some k.spells.form h.spells)
one-text-rule text (Bs r) (Generations g) h k = absurd (bs-no-generations text h.birth h.survival k.survival k.birth r.hood g.states h.spells k.spells)
one-text-rule text (Isotropic birth survival) (Generations g) h k = absurd (kinds-no-generations text birth survival k.survival k.birth g.states h.1.spells k.spells)
one-text-rule text (Map characters) (Generations g) h k = absurd (generations-no-map text k.survival k.birth characters g.states k.spells h.spells)
one-text-rule text (Generations g) (Bs r) h k = absurd (bs-no-generations text k.birth k.survival h.survival h.birth r.hood g.states k.spells h.spells)
one-text-rule text (Generations g) (Isotropic birth survival) h k = absurd (kinds-no-generations text birth survival h.survival h.birth g.states k.1.spells h.spells)
one-text-rule text (Generations g) (Map characters) h k = absurd (generations-no-map text h.survival h.birth characters g.states h.spells k.spells)
one-text-rule text (Generations g) (Generations o) h k = ap Generations (equal-generations g o (generations.names-once text g o h k))

-- ---- no fault beside a rule

zero-is-no-one : (n : ℕ) → n ≡ 0 → n ≡ 1 → ⊥
zero-is-no-one n is other = omega arith

has-none : (text : List ℕ) → IsText text → has_colon text ≡ true → ⊥
has-none text is k = false≢true (sym (no-colon text is) ∙ k)

pub rule-alone : (text : List ℕ) (rule : TextRule) (fault : RuleFault) → NamesTextRule text rule → IsTextRuleFault text fault → ⊥
rule-alone text (Bs r) Bounded h k = has-none text (bs-text text h.birth h.survival r.hood h.spells) k
rule-alone text (Bs r) Wakes h (inl k) = names-faultless text r Wakes h k
rule-alone text (Bs r) Wakes h (inr (inl k)) = k.0 h.birth h.survival r.hood h.spells
rule-alone text (Bs r) Wakes h (inr (inr (inl k))) = bs-no-map text h.birth h.survival k.1.0 r.hood h.spells k.1.1
rule-alone text (Bs r) Wakes h (inr (inr (inr k))) = bs-no-generations text h.birth h.survival k.1.1 k.1.0 r.hood k.1.2 h.spells k.1.3
rule-alone text (Bs r) Unknown h k = names-faultless text r Unknown h k.0
rule-alone text (Isotropic b s) Bounded h k = has-none text (isotropic-text text b s h.1.spells) k
rule-alone text (Isotropic b s) Wakes h (inl k) = h.0 k.1.0 k.1.1 k.1.2 k.1.3
rule-alone text (Isotropic b s) Wakes h (inr (inl k)) =
    false≢true (sym h.1.stays_empty ∙ ap gives_birth_alone (spells-once text b s k.1.1.0 k.1.1.1 h.1.spells k.1.1.2).0 ∙ k.1.1.3)
rule-alone text (Isotropic b s) Wakes h (inr (inr (inl k))) = kinds-no-map text b s k.1.0 h.1.spells k.1.1
rule-alone text (Isotropic b s) Wakes h (inr (inr (inr k))) = kinds-no-generations text b s k.1.1 k.1.0 k.1.2 h.1.spells k.1.3
rule-alone text (Isotropic b s) Unknown h k = k.1.1 b s h.1.spells
rule-alone text (Map c) Bounded h k = has-none text (map-text text c h.spells) k
rule-alone text (Map c) Wakes h (inl k) = bs-no-map text k.1.0 k.1.1 c k.1.2 k.1.3 h.spells
rule-alone text (Map c) Wakes h (inr (inl k)) = kinds-no-map text k.1.1.0 k.1.1.1 c k.1.1.2 h.spells
rule-alone text (Map c) Wakes h (inr (inr (inr k))) = generations-no-map text k.1.1 k.1.0 c k.1.2 k.1.3 h.spells
rule-alone text (Map c) Wakes h (inr (inr (inl k))) =
    zero-is-no-one (map_next c (replicate 9 0)) h.stays_empty (ap (λ d. map_next d (replicate 9 0)) (same_characters text k.1.0 c k.1.1.form h.spells) ∙ k.1.2)
rule-alone text (Map c) Unknown h k = k.2.1 c h.spells
rule-alone text (Generations g) Bounded h k = has-none text (generations-text text h.survival h.birth g.states h.spells) k
rule-alone text (Generations g) Wakes h (inl k) = bs-no-generations text k.1.0 k.1.1 h.survival h.birth k.1.2 g.states k.1.3 h.spells
rule-alone text (Generations g) Wakes h (inr (inl k)) = kinds-no-generations text k.1.1.0 k.1.1.1 h.survival h.birth g.states k.1.1.2 h.spells
rule-alone text (Generations g) Wakes h (inr (inr (inl k))) = generations-no-map text h.survival h.birth k.1.0 g.states h.spells k.1.1
rule-alone text (Generations g) Wakes h (inr (inr (inr k))) = generations.names-faultless text g Wakes h k
rule-alone text (Generations g) Unknown h k = generations.names-faultless text g Unknown h k.3

-- ---- one fault

waking-colon : (text : List ℕ) → IsTextRuleFault text Wakes → has_colon text ≡ false
waking-colon text (inl k) = k.0
waking-colon text (inr (inl k)) = k.1.0
waking-colon text (inr (inr (inl k))) = k.0
waking-colon text (inr (inr (inr k))) = k.0

waking-known : (text : List ℕ) → IsTextRuleFault text Wakes → IsTextRuleFault text Unknown → ⊥
waking-known text (inl k) g = g.0.1 k.1.0 k.1.1 k.1.2 k.1.3
waking-known text (inr (inl k)) g = g.1.1 k.1.1.0 k.1.1.1 k.1.1.2
waking-known text (inr (inr (inl k))) g = g.2.1 k.1.0 k.1.1
waking-known text (inr (inr (inr k))) g = g.3.1 k.1.0 k.1.1 k.1.2 k.1.3

pub one-text-fault : (text : List ℕ) (f g : RuleFault) → IsTextRuleFault text f → IsTextRuleFault text g → f ≡ g
one-text-fault text Bounded Bounded h k = refl
one-text-fault text Bounded Wakes h k = absurd (false≢true (sym (waking-colon text k) ∙ h))
one-text-fault text Bounded Unknown h k = absurd (false≢true (sym k.0.0 ∙ h))
one-text-fault text Wakes Bounded h k = absurd (false≢true (sym (waking-colon text h) ∙ k))
one-text-fault text Wakes Wakes h k = refl
one-text-fault text Wakes Unknown h k = absurd (waking-known text h k)
one-text-fault text Unknown Bounded h k = absurd (false≢true (sym h.0.0 ∙ k))
one-text-fault text Unknown Wakes h k = absurd (waking-known text k h)
one-text-fault text Unknown Unknown h k = refl
