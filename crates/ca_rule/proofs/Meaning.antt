-- A text names one rule at most, and no rule where it has a fault.
use Rattle.std.proofs.Common.{◌≡◌, ℕ, List, false, Some, ap, sym, ◌∙◌, rules}
use Rattle.ca_rule.specs.Prelude.{has_digit, counts_of, has_colon, NamesCounts, IsSpellingFault, SpellsBsRule, NamesBsRule, IsBsRuleFault}
use Rattle.ca_rule.specs.declared.{bs_rule.BsRule.BsRule, counts.Counts.Counts, hood.Hood.Hood, fault.RuleFault.RuleFault}
use Rattle.ca_rule.specs.declared.fault.RuleFault.TheVariants.{Bounded, Wakes, Unknown}
use Rattle.ca_rule.proofs.SpelledDigits.{first_list, second_list}
use Rattle.ca_rule.proofs.ReadInwards.{read}

-- where a text spells birth digits, survival digits and one thing more in one way at most
module _ {A : Type 0} (Spells : List ℕ → List ℕ → A → Type 0) (once : (b s c t : List ℕ) (x y : A) → Spells b s x → Spells c t y → (b ≡ c) × (s ≡ t) × (x ≡ y)) where
  -- it names counts in one way at most
  pub counts-once : (b s c t : Counts) (x y : A) → NamesCounts (λ d v. Spells d v x) b s → NamesCounts (λ d v. Spells d v y) c t → (b ≡ c) × (s ≡ t) × (x ≡ y)
  counts-once b s c t x y h k =
      let one = once h.birth h.survival k.birth k.survival x y h.spells k.spells in
      (h.birth_is ∙ ap counts_of one.0 ∙ sym k.birth_is, h.survival_is ∙ ap counts_of one.1 ∙ sym k.survival_is, one.2)

  -- where it does and has no `:`, it has no fault
  pub counts-faultless : (text : List ℕ) (b s : Counts) (x : A) (fault : RuleFault) → has_colon text ≡ false → NamesCounts (λ d v. Spells d v x) b s → IsSpellingFault Spells text fault → ⊥
  counts-faultless text b s x Bounded plain h k = cc (plain, k)
  counts-faultless text b s x Wakes plain h k =
      let digit = ap (λ ds. has_digit ds 0) (once h.birth h.survival k.1.0 k.1.1 x k.1.2 h.spells k.1.3).0 in cc (digit, h.stays_empty, k.1.4)
  counts-faultless text b s x Unknown plain h k = k.1 h.birth h.survival x h.spells

-- in each notation a text has one fault at most
pub one-fault : {A : Type 0} (Spells : List ℕ → List ℕ → A → Type 0) (text : List ℕ) (f g : RuleFault) → IsSpellingFault Spells text f → IsSpellingFault Spells text g → f ≡ g
one-fault = search rules

-- a text spells one B/S rule at most
spells-once : (text b s c t : List ℕ) (h k : Hood) → SpellsBsRule text b s h → SpellsBsRule text c t k → (b ≡ c) × (s ≡ t) × (h ≡ k)
spells-once text b s c t h k x y =
    let p = read text b s h x in
    let q = read text c t k y in
    let lists : Some (b, s) ≡ Some (c, t) = sym p.lists_are ∙ q.lists_are in
    (ap first_list lists, ap second_list lists, sym p.hood_is ∙ q.hood_is)

-- and names one at most
pub names-once : (text : List ℕ) (r s : BsRule) → NamesBsRule text r → NamesBsRule text s → (r.hood ≡ s.hood) × (r.birth ≡ s.birth) × (r.survival ≡ s.survival)
names-once text r s h k =
    let one = counts-once (SpellsBsRule text) (spells-once text) r.birth r.survival s.birth s.survival r.hood s.hood h k in (one.2, one.0, one.1)

-- it has no `:`
pub names-no_colon : (text : List ℕ) (rule : BsRule) → NamesBsRule text rule → has_colon text ≡ false
names-no_colon text rule h = (read text h.birth h.survival rule.hood h.spells).no_colon

-- and no fault
pub names-faultless : (text : List ℕ) (rule : BsRule) (fault : RuleFault) → NamesBsRule text rule → IsBsRuleFault text fault → ⊥
names-faultless text rule fault h = counts-faultless (SpellsBsRule text) (spells-once text) text rule.birth rule.survival rule.hood fault (names-no_colon text rule h) h
