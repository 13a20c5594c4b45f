-- Rules of every kind: a text names one or has one fault, and rules that are the same do the same.
use Rattle.std.proofs.Common.{◌≡◌, ◌≤◌, ℕ, List, [], ◌∷◌, length, false, Some, unwrap_or, refl, sym, ap, subst, ◌∙◌, rules, inl, inr}
use Rattle.std.specs.Str.{bytes_eq}
use Rattle.std.proofs.Math.Path.{PathP}
use mathlib.Core.HLevel.{is_prop→PathP}
use Rattle.std.proofs.lemmas.Bool.{cases_Bool}
use Rattle.std.proofs.Props.{props}
use Rattle.std.proofs.lemmas.Slice.Eq.{bytes_eq-Decides}
use Rattle.ca_rule.specs.Prelude.{RuleValue, Bs, Gen, Tab, next_of, IsSameRule, first_named, NamesRule, IsRuleFault, printed_form, is_count, FitsHood, has_colon, NamesBsRule, printed_bs_rule}
use Rattle.ca_rule.specs.Prelude.{TableRule}
use Rattle.ca_rule.specs.Generations as generations
use Rattle.ca_rule.specs.Next as bs
use Rattle.ca_rule.specs.declared.{bs_rule.BsRule.BsRule, counts.Counts.Counts, hood.Hood.Hood, gen_rule.GenRule.GenRule, fault.RuleFault.RuleFault}
use Rattle.ca_rule.specs.declared.fault.RuleFault.TheVariants.{Bounded, Wakes, Unknown}
use Rattle.ca_rule.proofs.GenerationsPrinted as generations_printed
use Rattle.ca_rule.proofs.GenerationsRead as generations_read
use Rattle.ca_rule.proofs.Meaning.{names-once, names-no_colon, names-faultless}
use Rattle.ca_rule.proofs.PrintedRules.{names_itself}

-- ---- rules that are the same

pub same-refl : (r : RuleValue) → IsSameRule r r
same-refl (Bs r) = (refl, refl, refl)
same-refl (Gen r) = (refl, refl, refl)
same-refl (Tab t) = refl

pub same-sym : (r s : RuleValue) → IsSameRule r s → IsSameRule s r
same-sym = search rules

pub same-trans : (r s t : RuleValue) → IsSameRule r s → IsSameRule s t → IsSameRule r t
same-trans = search rules

-- B/S rules that are the same have the same next cells
pub same-next : (r s : BsRule) → IsSameRule (Bs r) (Bs s) → next_of (Bs r) ≡ next_of (Bs s)
same-next r s a = λ i. bs.bs_next (a.0 i) (a.1 i) (a.2 i)

-- so have Generations rules
pub same-next_generations : (r s : GenRule) → IsSameRule (Gen r) (Gen s) → next_of (Gen r) ≡ next_of (Gen s)
same-next_generations r s a = λ i. generations.generations_next (a.0 i) (a.1 i) (a.2 i)

-- of equal counts, that 0 is none of them is shown in one way
empty-over : {b c : Counts} (e : b ≡ c) (of_b : is_count b 0 ≡ false) (of_c : is_count c 0 ≡ false) → PathP (λ j. is_count (e j) 0 ≡ false) of_b of_c
empty-over e of_b of_c = is_prop→PathP (λ j. is_count (e j) 0 ≡ false) (λ j. hlevel props) of_b of_c

-- so is that they fit, of equal neighbourhoods
fits-over : {b c : Counts} {h k : Hood} (e : b ≡ c) (f : h ≡ k) (of_b : FitsHood b h) (of_c : FitsHood c k) → PathP (λ j. FitsHood (e j) (f j)) of_b of_c
fits-over e f of_b of_c = is_prop→PathP (λ j. FitsHood (e j) (f j)) (λ j. hlevel props) of_b of_c

-- B/S rules that are the same are equal, however it was shown that they are rules
pub same-equal : (r s : BsRule) → IsSameRule (Bs r) (Bs s) → r ≡ s
same-equal r s a = λ i. record {
  hood = a.0 i;
  birth = a.1 i;
  stays_empty = empty-over a.1 r.stays_empty s.stays_empty i;
  birth_fits = fits-over a.1 a.0 r.birth_fits s.birth_fits i;
  survival = a.2 i;
  survival_fits = fits-over a.2 a.0 r.survival_fits s.survival_fits i;
}

-- so are Generations rules
pub equal-generations : (r s : GenRule) → IsSameRule (Gen r) (Gen s) → r ≡ s
equal-generations r s a = λ i. record {
  survival = a.0 i;
  birth = a.1 i;
  stays_empty = empty-over a.1 r.stays_empty s.stays_empty i;
  states = a.2 i;
  low = is_prop→PathP (λ j. 2 ≤ a.2 j) (λ j. hlevel props) r.low s.low i;
  high = is_prop→PathP (λ j. a.2 j ≤ 256) (λ j. hlevel props) r.high s.high i;
}

-- ---- what a text names

-- the first table of a name has that name
pub first-named : (name : List ℕ) (tables : List TableRule) (table : TableRule) → first_named name tables ≡ Some table → table.name ≡ name
first-named name [] table found = let no : ⊥ = cc in absurd no
first-named name (t ∷ ts) table found =
    elim (cases_Bool (bytes_eq t.name name)) [
      | inl e ↦ let same : Some t ≡ Some table = let k = rw e at found in k in ap (λ o. (unwrap_or o t).name) (sym same) ∙ (bytes_eq-Decides t.name name).0 e
      | inr e ↦ first-named name ts table (let k = rw e at found in k)
    ]

-- no text names rules of both notations
bs-or-generations : (text : List ℕ) (r : BsRule) (s : GenRule) → NamesBsRule text r → generations.NamesGenerationsRule text s → ⊥
bs-or-generations text r s a b = generations_read.other-notation text b.survival b.birth s.states b.spells a.birth a.survival r.hood a.spells

-- a text names one rule
pub named-once : (text : List ℕ) (tables : List TableRule) (r s : RuleValue) → NamesRule text tables r → NamesRule text tables s → r ≡ s
named-once text tables (Bs r) (Bs s) a b = ap Bs (same-equal r s (names-once text r s a.1 b.1))
named-once text tables (Bs r) (Gen s) a b = absurd (bs-or-generations text r s a.1 b.1)
named-once text tables (Bs r) (Tab u) a b = absurd (b.1 a.1.birth a.1.survival r.hood a.1.spells)
named-once text tables (Gen r) (Gen s) a b = ap Gen (equal-generations r s (generations_read.names-once text r s a.1 b.1))
named-once text tables (Gen r) (Bs s) a b = absurd (bs-or-generations text s r b.1 a.1)
named-once text tables (Gen r) (Tab u) a b = absurd (b.2 a.1.birth a.1.survival r.states a.1.spells)
named-once text tables (Tab t) (Bs s) a b = absurd (a.1 b.1.birth b.1.survival s.hood b.1.spells)
named-once text tables (Tab t) (Gen s) a b = absurd (a.2 b.1.birth b.1.survival s.states b.1.spells)
named-once text tables (Tab t) (Tab u) a b = ap (λ o. Tab (unwrap_or o t)) (sym a.3 ∙ b.3)

-- or it has a fault
pub named-faultless : (text : List ℕ) (tables : List TableRule) (rule : RuleValue) (fault : RuleFault) → NamesRule text tables rule → IsRuleFault text tables fault → ⊥
named-faultless text tables (Bs r) Bounded a b = names-faultless text r Bounded a.1 b
named-faultless text tables (Bs r) Wakes a (inl b) = names-faultless text r Wakes a.1 b
named-faultless text tables (Bs r) Wakes a (inr b) = generations_read.other-notation text b.1.1 b.1.0 b.1.2 b.1.3 a.1.birth a.1.survival r.hood a.1.spells
named-faultless text tables (Bs r) Unknown a b = names-faultless text r Unknown a.1 b.0
named-faultless text tables (Gen r) Bounded a b = generations_read.names-faultless text r Bounded a.1 b
named-faultless text tables (Gen r) Wakes a (inl b) = generations_read.other-notation text a.1.survival a.1.birth r.states a.1.spells b.1.0 b.1.1 b.1.2 b.1.3
named-faultless text tables (Gen r) Wakes a (inr b) = generations_read.names-faultless text r Wakes a.1 b
named-faultless text tables (Gen r) Unknown a b = generations_read.names-faultless text r Unknown a.1 b.1
named-faultless text tables (Tab t) Bounded a b = cc (a.0, b)
named-faultless text tables (Tab t) Wakes a (inl b) = a.1 b.1.0 b.1.1 b.1.2 b.1.3
named-faultless text tables (Tab t) Wakes a (inr b) = a.2 b.1.0 b.1.1 b.1.2 b.1.3
named-faultless text tables (Tab t) Unknown a b = cc (a.3, b.2)

-- a rule that wakes the empty plane is spelled without `:`
wakes-spelled : (text : List ℕ) (tables : List TableRule) → IsRuleFault text tables Wakes → has_colon text ≡ false
wakes-spelled text tables (inl b) = b.0
wakes-spelled text tables (inr b) = b.0

wakes-or-unknown : (text : List ℕ) (tables : List TableRule) → IsRuleFault text tables Wakes → IsRuleFault text tables Unknown → ⊥
wakes-or-unknown text tables (inl b) u = u.0.1 b.1.0 b.1.1 b.1.2 b.1.3
wakes-or-unknown text tables (inr b) u = u.1.1 b.1.0 b.1.1 b.1.2 b.1.3

-- and one alone
pub one-rule-fault : (text : List ℕ) (tables : List TableRule) (f g : RuleFault) → IsRuleFault text tables f → IsRuleFault text tables g → f ≡ g
one-rule-fault = search (rules, wakes-spelled, wakes-or-unknown)

-- the printed form of a rule that is named names it too
pub printed_bs_rule-names : (text : List ℕ) (tables : List TableRule) (rule : RuleValue) → NamesRule text tables rule → NamesRule (printed_form rule) tables rule
printed_bs_rule-names text tables (Bs r) named =
    let again = names_itself r (ap (λ c. length c.holds) named.1.birth_is) (ap (λ c. length c.holds) named.1.survival_is) r.stays_empty r.birth_fits r.survival_fits in
    (names-no_colon (printed_bs_rule r.hood r.birth r.survival) r again, again)
printed_bs_rule-names text tables (Gen r) named =
    let again = generations_printed.names_itself r (ap (λ c. length c.holds) named.1.survival_is) (ap (λ c. length c.holds) named.1.birth_is) r.stays_empty r.low r.high in
    (generations_read.names-no_colon (generations.printed_generations_rule r.survival r.birth r.states) r again, again)
printed_bs_rule-names text tables (Tab t) named = subst (λ name. NamesRule name tables (Tab t)) (sym (first-named text tables t named.3)) named

-- rules that are named among the same tables are the same only where they are equal
pub same-named : (text other : List ℕ) (tables : List TableRule) (r s : RuleValue) → NamesRule text tables r → NamesRule other tables s → IsSameRule r s → r ≡ s
same-named text other tables (Bs r) (Bs s) a b same = ap Bs (same-equal r s same)
same-named text other tables (Bs r) (Gen s) a b same = absurd same
same-named text other tables (Bs r) (Tab u) a b same = absurd same
same-named text other tables (Gen r) (Gen s) a b same = ap Gen (equal-generations r s same)
same-named text other tables (Gen r) (Bs s) a b same = absurd same
same-named text other tables (Gen r) (Tab u) a b same = absurd same
same-named text other tables (Tab t) (Bs s) a b same = absurd same
same-named text other tables (Tab t) (Gen s) a b same = absurd same
same-named text other tables (Tab t) (Tab u) a b same =
    let names : text ≡ other = sym (first-named text tables t a.3) ∙ same ∙ first-named other tables u b.3 in
    ap (λ o. Tab (unwrap_or o t)) (sym a.3 ∙ ap (λ n. first_named n tables) names ∙ b.3)
