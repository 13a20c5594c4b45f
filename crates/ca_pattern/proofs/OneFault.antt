-- A file is opened, or it isn't for one fault, in one place; out of memory apart.
use Rattle.std.proofs.Common.{◌≡◌, ◌≢◌, ℕ, List, Option, None, Some, refl, ap, subst}
use Rattle.std.specs.Option.{MatchOption}
use Rattle.ca_plane.specs.Prelude.{Picture, cell}
use Rattle.ca_rle.specs.Prelude.{IsFirstRleFault, IsFirstRleFaultOn}
use Rattle.ca_rle.proofs.FaultLines as rle
use Rattle.ca_macro.specs.Prelude.{IsFirstMacrocellFault, IsFirstMacrocellFaultOn}
use Rattle.ca_macro.proofs.OneMeaning as macrocell
use Rattle.ca_rule.specs.Prelude.{TableRule, RuleValue, IsRuleFault}
use Rattle.ca_pattern.specs.declared.{convert_fault.ConvertFault.ConvertFault, pattern_fault.PatternFault.PatternFault, located_fault.LocatedFault.LocatedFault, read.BadPattern.BadPattern}
use Rattle.ca_pattern.specs.declared.ruled.UnnamedRule.{UnnamedRule as Unnamed}
use Rattle.ca_pattern.specs.declared.convert_fault.ConvertFault.TheVariants as convert
use Rattle.ca_pattern.specs.declared.pattern_fault.PatternFault.TheVariants as pattern_fault
use Rattle.ca_pattern.specs.declared.located_fault.LocatedFault.TheVariants.{Unread, UnnamedRule, StateTooLarge, GenTooLarge, Work, Range, TooManyCells, Memory}
use Rattle.ca_pattern.specs.Prelude.{IsSummaryFault, IsPatternFaultOn, IsOpeningFault, convert_fault_of, IsSameFault, HoldsRuledPattern, HoldsRuleText, HasRuleFault, HasSmallStates}
use Rattle.ca_pattern.proofs.OneConversion.{ready_or_fault}
use Rattle.ca_pattern.proofs.OneMeaning.{one_fault_of, one_meaning, one_rule_fault_of, reads_without_fault, named_or_fault}
use Rattle.ca_pattern.proofs.PatternsRead.{fault_on}

-- ---- lines

-- a fault stands on one line, or on none
one_line_or_none : (First : Type 0) (On : ℕ → Type 0) → ((n : ℕ) → On n → First) → ((m n : ℕ) → On m → On n → m ≡ n) → (a b : Option ℕ)
    → MatchOption a (First → ⊥) On → MatchOption b (First → ⊥) On → a ≡ b
one_line_or_none First On is_first one None None h k = refl
one_line_or_none First On is_first one None (Some n) h k = absurd (h (is_first n k))
one_line_or_none First On is_first one (Some m) None h k = absurd (k (is_first m h))
one_line_or_none First On is_first one (Some m) (Some n) h k = ap Some (one m n h k)

pub one_line_of : (bytes : List ℕ) (fault : PatternFault) (a b : Option ℕ) → IsPatternFaultOn bytes fault a → IsPatternFaultOn bytes fault b → a ≡ b
one_line_of bytes (pattern_fault.Rle f) a b h k =
    one_line_or_none (IsFirstRleFault bytes f) (IsFirstRleFaultOn bytes f) (rle.fault_of_line bytes f) (λ m n on too. rle.one_faulty_line bytes m n (f, on) (f, too)) a b h.2.1 k.2.1
one_line_of bytes (pattern_fault.Macro f) a b h k =
    one_line_or_none (IsFirstMacrocellFault bytes f) (IsFirstMacrocellFaultOn bytes f) (macrocell.is_first bytes f) (λ m n on too. macrocell.one_faulty_line bytes m n (f, on) (f, too)) a b h.2.1 k.2.1
one_line_of bytes pattern_fault.Memory a b h k = absurd h

-- ---- faults

module _ (bytes : List ℕ) (tables : List TableRule) where
  -- a rule text that names no rule
  has_rule_fault : (unnamed : Unnamed) → HoldsRuleText unnamed.rule_text.items bytes → IsRuleFault unnamed.rule_text.items tables unnamed.fault → HasRuleFault bytes tables unnamed.fault
  has_rule_fault unnamed (cells, generation, holds) wrong = (cells, unnamed.rule_text.items, generation, holds, wrong)

  -- a fault, without its place, is one for which there is no summary
  pub opening_alone : (refused : LocatedFault) → IsOpeningFault bytes tables refused → (fault : ConvertFault) × (convert_fault_of refused ≡ Some fault) × IsSummaryFault bytes tables fault
  opening_alone (Unread bad) h = (convert.BadPattern bad.fault, refl, fault_on bytes bad.fault bad.line h)
  opening_alone (UnnamedRule unnamed) h = (convert.BadRule unnamed.fault, refl, has_rule_fault unnamed h.0 h.1)
  opening_alone StateTooLarge h = (convert.StateTooLarge, refl, h)
  opening_alone GenTooLarge h = absurd h
  opening_alone Work h = absurd h
  opening_alone Range h = absurd h
  opening_alone TooManyCells h = absurd h
  opening_alone Memory h = (convert.Memory, refl, h)

  pub alone_is : (o : Option ConvertFault) (f g : ConvertFault) → o ≡ Some f → o ≡ Some g → f ≡ g
  alone_is o f g a b = cc

  -- a file that holds a pattern of small states is opened without a fault
  pub opened_or_fault : (p : Picture) (r : RuleValue) (g : ℕ) (fault : LocatedFault) → fault ≢ Memory → HoldsRuledPattern bytes tables p r g → HasSmallStates r (cell p) → IsOpeningFault bytes tables fault → ⊥
  opened_or_fault p r g (Unread bad) m a small h = reads_without_fault bytes bad.fault a.holds.readable (fault_on bytes bad.fault bad.line h)
  opened_or_fault p r g (UnnamedRule unnamed) m a small h = named_or_fault bytes tables p r g unnamed.fault a (has_rule_fault unnamed h.0 h.1)
  opened_or_fault p r g StateTooLarge m a small h = ready_or_fault bytes tables p r g convert.StateTooLarge (λ e. cc) a small h
  opened_or_fault p r g GenTooLarge m a small h = h
  opened_or_fault p r g Work m a small h = h
  opened_or_fault p r g Range m a small h = h
  opened_or_fault p r g TooManyCells m a small h = h
  opened_or_fault p r g Memory m a small h = m refl

  same_unread : (one two : BadPattern) → IsPatternFaultOn bytes one.fault one.line → IsPatternFaultOn bytes two.fault two.line → one ≡ two
  same_unread one two a b =
      let fault = one_fault_of bytes one.fault two.fault (fault_on bytes one.fault one.line a) (fault_on bytes two.fault two.line b) in
      let line = one_line_of bytes two.fault one.line two.line (subst (λ f. IsPatternFaultOn bytes f one.line) fault a) b in
      λ i. record { fault = fault i; line = line i }

  same_text : (one two : List ℕ) → HoldsRuleText one bytes → HoldsRuleText two bytes → one ≡ two
  same_text one two (p, g, a) (q, h, b) = (one_meaning bytes p q one two g h a.means b.means).1

  -- a file has one fault
  pub one_opening_fault : (f g : LocatedFault) → f ≢ Memory → g ≢ Memory → IsOpeningFault bytes tables f → IsOpeningFault bytes tables g → IsSameFault f g
  one_opening_fault Memory g m n a b = absurd (m refl)
  one_opening_fault f Memory m n a b = absurd (n refl)
  one_opening_fault GenTooLarge g m n a b = absurd a
  one_opening_fault Work g m n a b = absurd a
  one_opening_fault Range g m n a b = absurd a
  one_opening_fault TooManyCells g m n a b = absurd a
  one_opening_fault f GenTooLarge m n a b = absurd b
  one_opening_fault f Work m n a b = absurd b
  one_opening_fault f Range m n a b = absurd b
  one_opening_fault f TooManyCells m n a b = absurd b
  one_opening_fault (Unread f) (Unread g) m n a b = same_unread f g a b
  one_opening_fault (Unread f) (UnnamedRule g) m n a (h, wrong) = absurd (reads_without_fault bytes f.fault h.2.readable (fault_on bytes f.fault f.line a))
  one_opening_fault (Unread f) StateTooLarge m n a (q, s, h, ruled, large) = absurd (reads_without_fault bytes f.fault ruled.holds.readable (fault_on bytes f.fault f.line a))
  one_opening_fault (UnnamedRule f) (Unread g) m n (h, wrong) b = absurd (reads_without_fault bytes g.fault h.2.readable (fault_on bytes g.fault g.line b))
  one_opening_fault (UnnamedRule f) (UnnamedRule g) m n a b =
      (one_rule_fault_of bytes tables f.fault g.fault (has_rule_fault f a.0 a.1) (has_rule_fault g b.0 b.1), same_text f.rule_text.items g.rule_text.items a.0 b.0)
  one_opening_fault (UnnamedRule f) StateTooLarge m n a (q, s, k, ruled, large) = absurd (named_or_fault bytes tables q s k f.fault ruled (has_rule_fault f a.0 a.1))
  one_opening_fault StateTooLarge (Unread g) m n (q, s, h, ruled, large) b = absurd (reads_without_fault bytes g.fault ruled.holds.readable (fault_on bytes g.fault g.line b))
  one_opening_fault StateTooLarge (UnnamedRule g) m n (q, s, k, ruled, large) b = absurd (named_or_fault bytes tables q s k g.fault ruled (has_rule_fault g b.0 b.1))
  one_opening_fault StateTooLarge StateTooLarge m n a b = refl
