-- A file has one meaning and one fault at most, and not both.
use Rattle.std.proofs.Common.{◌≡◌, ℕ, ◌<◌, List, sym, ap, subst, ◌∙◌, arith}
use Rattle.ca_plane.specs.Prelude.{Picture, cell}
use Rattle.ca_rule.specs.Prelude.{TableRule, RuleValue, states_of, NamesRule, IsRuleFault}
use Rattle.ca_rule.specs.declared.fault.RuleFault.{RuleFault}
use Rattle.ca_rule.proofs.Rules.{named-once, named-faultless, one-rule-fault}
use Rattle.ca_rle.specs.Shown as rle_shown
use Rattle.ca_rle.proofs.OneFile as rle_file
use Rattle.ca_rle.proofs.OneFault as rle_fault
use Rattle.ca_macro.specs.Shown as macrocell_shown
use Rattle.ca_macro.proofs.OneMeaning as macrocell
use Rattle.ca_pattern.specs.declared.{pattern_fault.PatternFault.PatternFault, format.Format.Format}
use Rattle.ca_pattern.specs.declared.pattern_fault.PatternFault.TheVariants as pattern_fault
use Rattle.ca_pattern.specs.declared.format.Format.TheVariants as formats
use Rattle.ca_pattern.specs.Prelude.{format_of, MeansAs, IsReadableAs, IsPatternFault, Means, IsReadable, HoldsRuledPattern, HasRuleFault, HasLargeState, HasSmallStates}

-- ---- one meaning

-- bytes of a format mean one picture, one rule text and one generation
one_meaning_as : (format : Format) (bytes : List ℕ) (p q : Picture) (t u : List ℕ) (g h : ℕ) → MeansAs format bytes p t g → MeansAs format bytes q u h → (p ≡ q) × (t ≡ u) × (g ≡ h)
one_meaning_as formats.Rle bytes p q t u g h a b =
    let same = rle_file.one_file bytes a.0 b.0 a.1 b.1 in
    (a.2 ∙ ap (λ f. rle_shown.picture_of_items f.corner f.items) same ∙ sym b.2, a.3 ∙ ap (λ f. f.rule_text) same ∙ sym b.3, a.4 ∙ ap (λ f. f.generation) same ∙ sym b.4)
one_meaning_as formats.Mc bytes p q t u g h a b =
    let same = macrocell.one_file bytes a.0 b.0 a.1 b.1 in
    (a.2 ∙ ap (λ f. macrocell_shown.picture_of_nodes f.nodes) same ∙ sym b.2, a.3 ∙ ap (λ f. f.rule_text) same ∙ sym b.3, a.4 ∙ ap (λ f. f.generation) same ∙ sym b.4)

-- and so do any bytes
pub one_meaning : (bytes : List ℕ) (p q : Picture) (t u : List ℕ) (g h : ℕ) → Means bytes p t g → Means bytes q u h → (p ≡ q) × (t ≡ u) × (g ≡ h)
one_meaning bytes p q t u g h a b = one_meaning_as (format_of bytes) bytes p q t u g h a b

-- ---- one fault

-- bytes that read have no fault
pub reads_without_fault : (bytes : List ℕ) (fault : PatternFault) → IsReadable bytes → IsPatternFault bytes fault → ⊥
reads_without_fault bytes (pattern_fault.Rle fault) reads wrong =
    let (file, is, within) = subst (λ t. IsReadableAs t bytes) wrong.0 reads in
    rle_fault.no_fault_within_limits bytes file fault is within wrong.1 wrong.2
reads_without_fault bytes (pattern_fault.Macro fault) reads wrong =
    let (file, is, within) = subst (λ t. IsReadableAs t bytes) wrong.0 reads in
    macrocell.no_fault_within_range bytes file fault is within wrong.1 wrong.2
reads_without_fault bytes pattern_fault.Memory reads wrong = wrong

-- no format is the other
rle_or_macro : (bytes : List ℕ) → format_of bytes ≡ formats.Rle → format_of bytes ≡ formats.Mc → ⊥
rle_or_macro bytes a b = let e : formats.Rle ≡ formats.Mc = sym a ∙ b in cc

-- bytes have one fault
pub one_fault_of : (bytes : List ℕ) (f g : PatternFault) → IsPatternFault bytes f → IsPatternFault bytes g → f ≡ g
one_fault_of bytes (pattern_fault.Rle f) (pattern_fault.Rle g) a b = ap pattern_fault.Rle (rle_fault.one_fault bytes f g a.1 b.1 a.2 b.2)
one_fault_of bytes (pattern_fault.Macro f) (pattern_fault.Macro g) a b = ap pattern_fault.Macro (macrocell.one_fault bytes f g a.1 b.1 a.2 b.2)
one_fault_of bytes (pattern_fault.Rle f) (pattern_fault.Macro g) a b = absurd (rle_or_macro bytes a.0 b.0)
one_fault_of bytes (pattern_fault.Macro f) (pattern_fault.Rle g) a b = absurd (rle_or_macro bytes b.0 a.0)
one_fault_of bytes pattern_fault.Memory g a b = absurd a
one_fault_of bytes (pattern_fault.Rle f) pattern_fault.Memory a b = absurd b
one_fault_of bytes (pattern_fault.Macro f) pattern_fault.Memory a b = absurd b

module _ (bytes : List ℕ) (tables : List TableRule) where
  -- bytes hold one pattern, under one rule
  pub one_ruled : (p q : Picture) (r s : RuleValue) (g h : ℕ) → HoldsRuledPattern bytes tables p r g → HoldsRuledPattern bytes tables q s h → (p ≡ q) × (r ≡ s) × (g ≡ h)
  one_ruled p q r s g h a b =
      let one = one_meaning bytes p q a.rule_text b.rule_text g h a.holds.means b.holds.means in
      (one.0, named-once b.rule_text tables r s (subst (λ t. NamesRule t tables r) one.1 a.names) b.names, one.2)

  -- whose states are small or one of them large, not both
  pub small_or_large : (p q : Picture) (r s : RuleValue) (g h : ℕ) → HoldsRuledPattern bytes tables p r g → HasSmallStates r (cell p) → HoldsRuledPattern bytes tables q s h → HasLargeState s (cell q) → ⊥
  small_or_large p q r s g h a small b (x, y, large) =
      let one = one_ruled p q r s g h a b in
      let few : cell p x y < states_of r = small x y in
      let there : cell q x y < states_of r = subst (λ l. cell l x y < states_of r) one.0 few in
      let low : cell q x y < states_of s = subst (λ u. cell q x y < states_of u) one.1 there in
      omega arith

  -- a rule text names a rule or has a fault, not both
  pub named_or_fault : (p : Picture) (r : RuleValue) (g : ℕ) (fault : RuleFault) → HoldsRuledPattern bytes tables p r g → HasRuleFault bytes tables fault → ⊥
  named_or_fault p r g fault a (q, t, h, holds, wrong) =
      let one = one_meaning bytes p q a.rule_text t g h a.holds.means holds.means in
      named-faultless t tables r fault (subst (λ l. NamesRule l tables r) one.1 a.names) wrong

  -- and has one fault
  pub one_rule_fault_of : (f g : RuleFault) → HasRuleFault bytes tables f → HasRuleFault bytes tables g → f ≡ g
  one_rule_fault_of f g (p, t, h, holds, wrong) (q, u, k, others, bad) =
      let one = one_meaning bytes p q t u h k holds.means others.means in
      one-rule-fault u tables f g (subst (λ l. IsRuleFault l tables f) one.1 wrong) bad
