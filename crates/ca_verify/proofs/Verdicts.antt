-- A claim is true or there is a reason against it, and one kind of verdict is true of it.
use Rattle.std.proofs.Common.{◌≡◌, ◌≢◌, ℕ, zero, suc, ◌+◌, ◌-◌, ◌≤◌, List, [], ◌∷◌, refl, sym, ap, ap₂, subst, ◌∙◌, inl, inr, arith}
use Rattle.std.specs.List.{AllByRecursion}
use Rattle.std.proofs.lemmas.Bool.{cases_order}
use Rattle.std.proofs.lemmas.Option.{same_Some, none-some}
use Rattle.ca_plane.specs.Prelude.{Picture, cell, after, IsAfter}
use Rattle.ca_rule.specs.Prelude.{TableRule, RuleValue, next_of, IsSameRule}
use Rattle.ca_rule.specs.declared.{table.fault.TableFault.TableFault, fault.RuleFault.RuleFault}
use Rattle.ca_rule.proofs.OneTable.{one_table, none_of_a_table, one_fault as one_table_fault}
use Rattle.ca_plane.proofs.Populations.{not_both}
use Rattle.ca_answers.specs.declared.{verdict.Refutation.Refutation, cause.Cause.Cause}
use Rattle.ca_answers.specs.declared.verdict.Refutation.TheVariants.{Empty, Differs, Earlier, Died}
use Rattle.ca_pattern.specs.declared.pattern_fault.PatternFault.{PatternFault}
use Rattle.ca_answers.specs.declared.cause.Cause.TheVariants.{NoFile, BadTable, BadPattern, BadRule, StateTooLarge, MixedRules, TooManyCells, Work, Memory}
use Rattle.ca_text.specs.declared.{asks.Asks.Asks, asks.Forbidden.Forbidden, both.Both.Both}
use Rattle.ca_text.specs.declared.asks.Forbidden.TheVariants.{EmptyPlane}
use Rattle.ca_pattern.specs.Prelude.{IsReadable, HoldsRuledPattern, HasRuleFault, IsPatternFault, IsQuietTable, IsTableFault}
use Rattle.ca_text.specs.Prelude.{Claim, asks_of, expected_cells, ShowsNothingForbidden, IsTrueClaim, HoldsOfBoth, HoldsOfEither, FirstBadOfBoth, SomeOf, FirstBad}
use Rattle.ca_answers.specs.Prelude.{SuppliedFiles, IsReason, HoldsOfFile, IsTableAt, AreTables, IsRuled, IsMissing, IsThere, HoldsTable, IsReadableFile, HasRule, IsSmall, HaveOtherRules, FilesAreThere}
use Rattle.ca_answers.specs.Prelude.{TablesAreGood, PatternsAreRead, PatternsHaveRules, StatesAreSmall, AgreeOn, HasFewCounted, HasTooManyCounted, HasCause, IsCauseFor, IsGoodPattern, AreGood}
use Rattle.ca_answers.specs.Prelude.{IsJudged, IsBadTable, IsBadPattern, IsUnnamed, IsLarge}
use Rattle.ca_verify.proofs.PatternsRead.{ruled_path_reads}
use Rattle.ca_text.proofs.PairedLists.{zip_left}
use Rattle.ca_text.proofs.Truths.{back}
use Rattle.ca_pattern.proofs.OneMeaning.{named_or_fault, one_fault_of, one_rule_fault_of, one_ruled, reads_without_fault, small_or_large}

-- a plane that is empty, where that is forbidden, shows what is forbidden
pub dead : (next : List ℕ → ℕ) (cells : Picture) (forbidden : Forbidden) (m : ℕ) → forbidden ≡ EmptyPlane → IsAfter next cells m [] → ShowsNothingForbidden next cells forbidden m → ⊥
dead next cells forbidden m is empty not =
    let live = subst (λ b. ShowsNothingForbidden next cells b m) is not in
    live.2 (empty live.0 live.1)

-- where there is a reason against a claim, it isn't true
pub false_from_reason : (next : List ℕ → ℕ) (cells other : Picture) (asks : Asks) (refutation : Refutation) → IsReason next cells other asks refutation → IsTrueClaim next cells other asks → ⊥
false_from_reason next cells other asks Empty reason true = reason.1 (true.live reason.0)
false_from_reason next cells other asks (Differs x y found expected generations) reason true =
    reason.4 (sym reason.2 ∙ ap (λ n. after next cells n x y) reason.1 ∙ true.stands x y ∙ reason.3)
false_from_reason next cells other asks (Earlier m dx dy) reason true = back next cells asks.forbidden m dx dy reason.4 reason.5 (true.least m reason.2 reason.3)
false_from_reason next cells other asks (Died m) reason true = dead next cells asks.forbidden m reason.4 reason.5 (true.least m reason.2 reason.3)

-- ---- a path is good or bad, not both

module _ (files : SuppliedFiles) (path : List ℕ) where
  pub there_or_none : IsThere files path → IsMissing files path → ⊥
  there_or_none a none = none-some a.0 (sym none ∙ a.1)

  -- what holds of the file of a path holds of the same bytes
  same_file : (P Q : List ℕ → Type 0) → HoldsOfFile files P path → HoldsOfFile files Q path → (bytes : List ℕ) × P bytes × Q bytes
  same_file P Q (bytes, at, p) (others, there, q) = (others, subst P (same_Some bytes others (sym at ∙ there)) p, q)

  -- the file of a path is one table
  one_table_at : (t u : TableRule) → IsTableAt files path t → IsTableAt files path u → t ≡ u
  one_table_at t u a b =
      let (bytes, one, two) = same_file (λ l. IsQuietTable l t) (λ l. IsQuietTable l u) a b in
      one_table bytes t u one.0 two.0

  pub table_or_fault : (fault : TableFault) → HoldsTable files path → IsBadTable files fault path → ⊥
  table_or_fault fault (t, a) b =
      let (bytes, quiet, wrong) = same_file (λ l. IsQuietTable l t) (λ l. IsTableFault l fault) a b in
      elim (none_of_a_table bytes t fault quiet.0 wrong.1) [ inl memory ↦ wrong.0 memory | inr wakes ↦ wakes.1 quiet.1 ]

  pub one_bad_table : (f g : TableFault) → IsBadTable files f path → IsBadTable files g path → f ≡ g
  one_bad_table f g a b =
      let (bytes, wrong, bad) = same_file (λ l. IsTableFault l f) (λ l. IsTableFault l g) a b in
      one_table_fault bytes f g wrong.0 bad.0 wrong.1 bad.1

  reads_or_fault : (fault : PatternFault) → IsReadableFile files path → IsBadPattern files fault path → ⊥
  reads_or_fault fault a b =
      let (bytes, reads, wrong) = same_file IsReadable (λ l. IsPatternFault l fault) a b in
      reads_without_fault bytes fault reads wrong

  one_pattern_fault : (f g : PatternFault) → IsBadPattern files f path → IsBadPattern files g path → f ≡ g
  one_pattern_fault f g a b =
      let (bytes, wrong, bad) = same_file (λ l. IsPatternFault l f) (λ l. IsPatternFault l g) a b in
      one_fault_of bytes f g wrong bad

  module _ (tables : List TableRule) where
    -- the bytes hold a pattern of some generation
    abbrev HoldsSome : Picture → RuleValue → List ℕ → Type 0
    HoldsSome cells rule bytes = (generation : ℕ) × HoldsRuledPattern bytes tables cells rule generation

    -- the pattern of a path has one rule
    one_ruled_at : (p q : Picture) (r s : RuleValue) → IsRuled files tables path p r → IsRuled files tables path q s → (p ≡ q) × (r ≡ s)
    one_ruled_at p q r s a b =
        let (bytes, one, two) = same_file (HoldsSome p r) (HoldsSome q s) a b in
        let same = one_ruled bytes tables p q r s one.0 two.0 one.1 two.1 in
        (same.0, same.1)

    named_or_fault_at : (fault : RuleFault) → HasRule files tables path → IsUnnamed files tables fault path → ⊥
    named_or_fault_at fault (cells, rule, ruled) b =
        let (bytes, one, wrong) = same_file (HoldsSome cells rule) (λ l. HasRuleFault l tables fault) ruled b in
        named_or_fault bytes tables cells rule one.0 fault one.1 wrong

    one_rule_fault : (f g : RuleFault) → IsUnnamed files tables f path → IsUnnamed files tables g path → f ≡ g
    one_rule_fault f g a b =
        let (bytes, wrong, bad) = same_file (λ l. HasRuleFault l tables f) (λ l. HasRuleFault l tables g) a b in
        one_rule_fault_of bytes tables f g wrong bad

    small_or_large_at : IsSmall files tables path → IsLarge files tables path → ⊥
    small_or_large_at (cells, rule, ruled, small) (others, other_rule, there, large) =
        let (bytes, one, two) = same_file (HoldsSome cells rule) (HoldsSome others other_rule) ruled there in
        small_or_large bytes tables cells others rule other_rule one.0 two.0 one.1 small two.1 large

-- the files of paths are one list of tables
pub one_tables : (files : SuppliedFiles) (rules : List (List ℕ)) (ts us : List TableRule) → AreTables files rules ts → AreTables files rules us → ts ≡ us
one_tables files [] [] [] a b = refl
one_tables files [] [] (u ∷ us) a b = absurd b
one_tables files (r ∷ rs) (t ∷ ts) [] a b = absurd b
one_tables files (r ∷ rs) (t ∷ ts) (u ∷ us) a b =
    let head = one_table_at files r t u a.0 b.0 in
    let tail = one_tables files rs ts us a.1 b.1 in
    cc
one_tables files rules ts us a b = absurd a

-- all of which are there
pub tables_there : (files : SuppliedFiles) (rules : List (List ℕ)) (tables : List TableRule) → AreTables files rules tables → AllByRecursion (IsThere files) rules
tables_there files = zip_left (IsTableAt files) (IsThere files) (λ path table at. (at.0, at.1))

-- ---- lists of paths

-- where all are good, none is bad
pub all_or_some : (Good Bad : List ℕ → Type 0) → ((p : List ℕ) → Good p → Bad p → ⊥) → (ps : List (List ℕ)) → AllByRecursion Good ps → SomeOf Bad ps → ⊥
all_or_some Good Bad h [] all some = some
all_or_some Good Bad h (p ∷ ps) all (inl bad) = h p all.0 bad
all_or_some Good Bad h (p ∷ ps) all (inr bad) = all_or_some Good Bad h ps all.1 bad

all_or_first : (Good Bad : List ℕ → Type 0) → ((p : List ℕ) → Good p → Bad p → ⊥) → (ps : List (List ℕ)) → AllByRecursion Good ps → FirstBad Good Bad ps → ⊥
all_or_first Good Bad h [] all first = first
all_or_first Good Bad h (p ∷ ps) all (inl bad) = h p all.0 bad
all_or_first Good Bad h (p ∷ ps) all (inr bad) = all_or_first Good Bad h ps all.1 bad.1

-- the first bad one is bad in one way
pub one_first : (Good Bad Worse : List ℕ → Type 0) (Same : Type 0) → ((p : List ℕ) → Good p → Bad p → ⊥) → ((p : List ℕ) → Good p → Worse p → ⊥) → ((p : List ℕ) → Bad p → Worse p → Same)
    → (ps : List (List ℕ)) → FirstBad Good Bad ps → FirstBad Good Worse ps → Same
one_first Good Bad Worse Same h k same [] a b = absurd a
one_first Good Bad Worse Same h k same (p ∷ ps) (inl a) (inl b) = same p a b
one_first Good Bad Worse Same h k same (p ∷ ps) (inl a) (inr b) = absurd (h p b.0 a)
one_first Good Bad Worse Same h k same (p ∷ ps) (inr a) (inl b) = absurd (k p a.0 b)
one_first Good Bad Worse Same h k same (p ∷ ps) (inr a) (inr b) = one_first Good Bad Worse Same h k same ps a.1 b.1

-- ---- the paths of both patterns

module _ (paths : Both (List ℕ)) where
  both_weaker : (P Q : List ℕ → Type 0) → ((p : List ℕ) → P p → Q p) → HoldsOfBoth P paths → HoldsOfBoth Q paths
  both_weaker P Q h all = (h paths.first all.0, h paths.second all.1)

  both_or_either : (Good Bad : List ℕ → Type 0) → ((p : List ℕ) → Good p → Bad p → ⊥) → HoldsOfBoth Good paths → HoldsOfEither Bad paths → ⊥
  both_or_either Good Bad h all (inl bad) = h paths.first all.0 bad
  both_or_either Good Bad h all (inr bad) = h paths.second all.1 bad

  both_or_first : (Good Bad : List ℕ → Type 0) → ((p : List ℕ) → Good p → Bad p → ⊥) → HoldsOfBoth Good paths → FirstBadOfBoth Good Bad paths → ⊥
  both_or_first Good Bad h all (inl bad) = h paths.first all.0 bad
  both_or_first Good Bad h all (inr bad) = h paths.second all.1 bad.1

  one_first_of_both : (Good Bad Worse : List ℕ → Type 0) (Same : Type 0) → ((p : List ℕ) → Good p → Bad p → ⊥) → ((p : List ℕ) → Good p → Worse p → ⊥) → ((p : List ℕ) → Bad p → Worse p → Same)
      → FirstBadOfBoth Good Bad paths → FirstBadOfBoth Good Worse paths → Same
  one_first_of_both Good Bad Worse Same h k same (inl a) (inl b) = same paths.first a b
  one_first_of_both Good Bad Worse Same h k same (inl a) (inr b) = absurd (h paths.first b.0 a)
  one_first_of_both Good Bad Worse Same h k same (inr a) (inl b) = absurd (k paths.first a.0 b)
  one_first_of_both Good Bad Worse Same h k same (inr a) (inr b) = same paths.second a.1 b.1

-- ---- good patterns

module _ (files : SuppliedFiles) (tables : List TableRule) where
  -- the rules of good patterns with one rule are the same
  no_others : (p q : List ℕ) (cells other : Picture) (rule other_rule : RuleValue) → IsGoodPattern files tables p cells rule → IsGoodPattern files tables q other other_rule → IsSameRule rule other_rule
      → HaveOtherRules files tables p q → ⊥
  no_others p q cells other rule other_rule one two same mixed =
      let a = (one_ruled_at files p tables cells mixed.0 rule mixed.1 one.ruled mixed.4).1 in
      let b = (one_ruled_at files q tables other mixed.2 other_rule mixed.3 two.ruled mixed.5).1 in
      mixed.6 (subst (λ r. IsSameRule r mixed.3) a (subst (IsSameRule rule) b same))

  -- good patterns don't have different rules
  none_mixed : (paths : Both (List ℕ)) (cells other : Picture) (rule : RuleValue) → AreGood files tables paths cells other rule
      → HoldsOfBoth (IsSmall files tables) paths × (HaveOtherRules files tables paths.first paths.second → ⊥)
  none_mixed paths cells other rule j =
      (((cells, rule, j.0.ruled, j.0.small), (other, j.1, j.2.ruled, j.2.small)), no_others paths.first paths.second cells other rule j.1 j.0 j.2 j.3)

  -- patterns are good in one way
  one_good : (paths : Both (List ℕ)) (p q o v : Picture) (r s : RuleValue) → AreGood files tables paths p o r → AreGood files tables paths q v s → (p ≡ q) × (o ≡ v) × (r ≡ s)
  one_good paths p q o v r s a b =
      let one = one_ruled_at files paths.first tables p q r s a.0.ruled b.0.ruled in
      (one.0, (one_ruled_at files paths.second tables o v a.1 b.1 a.2.ruled b.2.ruled).0, one.1)

-- ---- causes, in their order

-- the place of a cause in the order
abbrev place : Cause → ℕ
place NoFile = 0
place (BadTable fault) = 1
place (BadPattern fault) = 2
place (BadRule fault) = 3
place StateTooLarge = 4
place MixedRules = 5
place TooManyCells = 6
place Work = 7
place Memory = 8

-- what holds of tables holds of those that are the same
of_these : (files : SuppliedFiles) (rules : List (List ℕ)) (Holds : List TableRule → Type 0) (tables others : List TableRule) → AreTables files rules tables → AreTables files rules others
    → Holds others → Holds tables
of_these files rules Holds tables others are there h = subst Holds (one_tables files rules others tables there are) h

-- the first n stages, up to the one rule: none of the first n causes holds
abbrev IsPast : SuppliedFiles → (rules : List (List ℕ)) → (paths : Both (List ℕ)) → ℕ → Type 0
IsPast files rules paths zero = Unit {0}
IsPast files rules paths (suc zero) = FilesAreThere files rules paths
IsPast files rules paths (suc (suc zero)) = (tables : List TableRule) × TablesAreGood files rules paths tables
IsPast files rules paths (suc (suc (suc zero))) = (tables : List TableRule) × PatternsAreRead files rules paths tables
IsPast files rules paths (suc (suc (suc (suc zero)))) = (tables : List TableRule) × PatternsHaveRules files rules paths tables
IsPast files rules paths (suc (suc (suc (suc (suc zero))))) = (tables : List TableRule) × StatesAreSmall files rules paths tables
IsPast files rules paths (suc (suc (suc (suc (suc (suc n)))))) =
    (tables : List TableRule) × StatesAreSmall files rules paths tables × (HaveOtherRules files tables paths.first paths.second → ⊥)

module _ (files : SuppliedFiles) (rules : List (List ℕ)) (asks : Asks) (paths : Both (List ℕ)) where
  -- a claim's patterns agree in one way
  one_agreed : (p q o v : Picture) (r s : RuleValue) → AgreeOn files rules paths p o r → AgreeOn files rules paths q v s → (p ≡ q) × (o ≡ v) × (r ≡ s)
  one_agreed p q o v r s (tables, are, good) (others, there, too) =
      one_good files tables paths p q o v r s good (of_these files rules (λ t. AreGood files t paths q v s) tables others are there too)

  -- and not both few and too many cells are counted
  few_or_many : (p q o v : Picture) (r s : RuleValue) → AgreeOn files rules paths p o r → AgreeOn files rules paths q v s → HasFewCounted asks p o → HasTooManyCounted asks q v → ⊥
  few_or_many p q o v r s agree same few many =
      let one = one_agreed p q o v r s agree same in
      not_both (cell (expected_cells asks.expected p o)) (cell (expected_cells asks.expected q v))
      (λ x y. ap (λ l. cell l x y) (ap₂ (expected_cells asks.expected) one.0 one.1)) (few many.0) many.1

  -- nor one fewer
  past_one_fewer : (n : ℕ) → IsPast files rules paths (suc n) → IsPast files rules paths n
  past_one_fewer zero h = tt
  past_one_fewer (suc zero) (tables, (are, h)) = (h, tables_there files rules tables are)
  past_one_fewer (suc (suc zero)) (tables, (are, h)) = (tables, (are, both_weaker paths (IsReadableFile files) (IsThere files) (λ p r. (r.0, r.1)) h))
  past_one_fewer (suc (suc (suc zero))) (tables, (are, h)) =
      (tables, (are, both_weaker paths (HasRule files tables) (IsReadableFile files) (λ p r. ruled_path_reads files tables p r.0 r.1 r.2) h))
  past_one_fewer (suc (suc (suc (suc zero)))) (tables, (are, h)) = (tables, (are, both_weaker paths (IsSmall files tables) (HasRule files tables) (λ p r. (r.0, r.1, r.2)) h))
  past_one_fewer (suc (suc (suc (suc (suc zero))))) (tables, small, one) = (tables, small)
  past_one_fewer (suc (suc (suc (suc (suc (suc n)))))) h = h

  -- nor any fewer
  past_fewer : (n m : ℕ) → IsPast files rules paths (m + n) → IsPast files rules paths n
  past_fewer n zero h = let e : zero + n ≡ n = omega arith in subst (IsPast files rules paths) e h
  past_fewer n (suc m) h =
      let e : suc m + n ≡ suc (m + n) = omega arith in
      past_fewer n m (past_one_fewer (m + n) (subst (IsPast files rules paths) e h))

  past_below : (n m : ℕ) → n ≤ m → IsPast files rules paths m → IsPast files rules paths n
  past_below n m below h = let e : m ≡ (m - n) + n = omega arith in past_fewer n (m - n) (subst (IsPast files rules paths) e h)

  -- patterns on which a claim agrees are past them all
  past_agreed : (cells other : Picture) (rule : RuleValue) → AgreeOn files rules paths cells other rule → IsPast files rules paths 6
  past_agreed cells other rule (tables, are, good) = let one = none_mixed files tables paths cells other rule good in (tables, (are, one.0), one.1)

  -- a cause comes past those before it
  past_before : (cause : Cause) → cause ≢ Memory → HasCause files rules asks paths cause → IsPast files rules paths (place cause)
  past_before NoFile m h = tt
  past_before (BadTable fault) m h = h.0
  past_before TooManyCells m (cells, other, rule, agree, some) = past_agreed cells other rule agree
  past_before Work m (cells, other, rule, agree, few) = past_agreed cells other rule agree
  past_before Memory m h = absurd (m refl)
  past_before cause m h = (h.0, h.1)

  -- all tables are good or one is bad, not both
  pub tables_or_fault : (fault : TableFault) (tables : List TableRule) → AreTables files rules tables → FirstBad (HoldsTable files) (IsBadTable files fault) rules → ⊥
  tables_or_fault fault tables are first =
      all_or_first (HoldsTable files) (IsBadTable files fault) (λ p. table_or_fault files p fault) rules (zip_left (IsTableAt files) (HoldsTable files) (λ path table at. (table, at)) rules tables are) first

  -- a cause before the one that counts cells isn't past itself
  not_past : (cause : Cause) → suc (place cause) ≤ 6 → HasCause files rules asks paths cause → IsPast files rules paths (suc (place cause)) → ⊥
  not_past NoFile m (inl none) past = both_or_either paths (IsThere files) (IsMissing files) (there_or_none files) past.0 none
  not_past NoFile m (inr none) past = all_or_some (IsThere files) (IsMissing files) (there_or_none files) rules past.1 none
  not_past (BadTable fault) m h (tables, (are, past)) = tables_or_fault fault tables are h.1
  not_past (BadPattern fault) m (tables, good, first) (others, (there, past)) = both_or_first paths (IsReadableFile files) (IsBadPattern files fault) (λ p. reads_or_fault files p fault) past first
  not_past (BadRule fault) m (tables, (are, all), first) (others, (there, past)) =
      both_or_first paths (HasRule files tables) (IsUnnamed files tables fault) (λ p. named_or_fault_at files p tables fault)
      (of_these files rules (λ t. HoldsOfBoth (HasRule files t) paths) tables others are there past) first
  not_past StateTooLarge m (tables, (are, all), some) (others, (there, past)) =
      both_or_either paths (IsSmall files tables) (IsLarge files tables) (λ p. small_or_large_at files p tables)
      (of_these files rules (λ t. HoldsOfBoth (IsSmall files t) paths) tables others are there past) some
  not_past MixedRules m (tables, (are, all), some) (others, (there, past), one) =
      of_these files rules (λ t. HaveOtherRules files t paths.first paths.second → ⊥) tables others are there one some
  not_past TooManyCells m h past = let no : ⊥ = omega arith in no
  not_past Work m h past = let no : ⊥ = omega arith in no
  not_past Memory m h past = let no : ⊥ = omega arith in no

  -- causes at one place are one
  same_place : (c d : Cause) → c ≢ Memory → d ≢ Memory → place c ≡ place d → HasCause files rules asks paths c → HasCause files rules asks paths d → c ≡ d
  same_place Memory d m n e h k = absurd (m refl)
  same_place c Memory m n e h k = absurd (n refl)
  same_place NoFile NoFile m n e h k = refl
  same_place (BadTable f) (BadTable g) m n e h k =
      ap BadTable (one_first (HoldsTable files) (IsBadTable files f) (IsBadTable files g) (f ≡ g) (λ p. table_or_fault files p f) (λ p. table_or_fault files p g) (λ p. one_bad_table files p f g) rules h.1 k.1)
  same_place (BadPattern f) (BadPattern g) m n e (tables, past, first) (others, past_too, other) =
      ap BadPattern (one_first_of_both paths (IsReadableFile files) (IsBadPattern files f) (IsBadPattern files g) (f ≡ g) (λ p. reads_or_fault files p f) (λ p. reads_or_fault files p g) (λ p. one_pattern_fault files p f g) first other)
  same_place (BadRule f) (BadRule g) m n e (tables, (are, all), first) (others, (there, each), other) =
      let same = one_tables files rules others tables there are in
      let too = subst (λ t. FirstBadOfBoth (HasRule files t) (IsUnnamed files t g) paths) same other in
      ap BadRule (one_first_of_both paths (HasRule files tables) (IsUnnamed files tables f) (IsUnnamed files tables g) (f ≡ g)
      (λ p. named_or_fault_at files p tables f) (λ p. named_or_fault_at files p tables g) (λ p. one_rule_fault files p tables f g) first too)
  same_place StateTooLarge StateTooLarge m n e h k = refl
  same_place MixedRules MixedRules m n e h k = refl
  same_place TooManyCells TooManyCells m n e h k = refl
  same_place Work Work m n e h k = refl
  same_place c d m n e h k = let no : ⊥ = omega arith in absurd no

  -- of two causes one comes before the other, and then not both hold
  before_or_after : (c d : Cause) → d ≢ Memory → suc (place c) ≤ place d → HasCause files rules asks paths c → HasCause files rules asks paths d → ⊥
  before_or_after c Memory n less h k = n refl
  before_or_after TooManyCells Work n less (p, o, r, agree, many) (q, v, s, same, few) = few_or_many q p v o s r same agree few many
  before_or_after c d n less h k = not_past c (omega arith) h (past_below (suc (place c)) (place d) less (past_before d n k))

  -- a claim has one cause, out of memory apart
  pub one_cause : (c d : Cause) → c ≢ Memory → d ≢ Memory → HasCause files rules asks paths c → HasCause files rules asks paths d → c ≡ d
  one_cause c d m n h k =
      elim (cases_order (place c) (place d)) [
        | inl e ↦ same_place c d m n e h k
        | inr (inl e) ↦ absurd (before_or_after c d n (omega arith) h k)
        | inr (inr e) ↦ absurd (before_or_after d c m (omega arith) k h)
      ]

  -- a file that isn't there goes before out of memory
  pub no_file_or_memory : HasCause files rules asks paths NoFile → HasCause files rules asks paths Memory → ⊥
  no_file_or_memory none (tables, (are, all), first) = not_past NoFile (omega arith) none (all, tables_there files rules tables are)

  -- and so does a bad table
  pub bad_table_or_memory : (fault : TableFault) → HasCause files rules asks paths (BadTable fault) → HasCause files rules asks paths Memory → ⊥
  bad_table_or_memory fault bad (tables, (are, all), first) = tables_or_fault fault tables are bad.1

-- ---- judged claims

module _ (files : SuppliedFiles) (rules : List (List ℕ)) (asks : Asks) (paths : Both (List ℕ)) where
  -- where they agree, no cause holds before the one that counts cells
  agreed_or_early : (cells other : Picture) (rule : RuleValue) (cause : Cause) → suc (place cause) ≤ 6 → AgreeOn files rules paths cells other rule → HasCause files rules asks paths cause → ⊥
  agreed_or_early cells other rule cause early agree h =
      not_past files rules asks paths cause early h (past_below files rules asks paths (suc (place cause)) 6 early (past_agreed files rules asks paths cells other rule agree))

  -- nor that one, where the cells that are counted aren't too many
  pub agreed_or_cause : (cells other : Picture) (rule : RuleValue) (cause : Cause) → cause ≢ Memory → cause ≢ Work → AgreeOn files rules paths cells other rule
      → HasFewCounted asks cells other → HasCause files rules asks paths cause → ⊥
  agreed_or_cause cells other rule TooManyCells m w agree few (p, o, r, same, many) = few_or_many files rules asks paths cells p other o rule r agree same few many
  agreed_or_cause cells other rule Work m w agree few h = w refl
  agreed_or_cause cells other rule Memory m w agree few h = m refl
  agreed_or_cause cells other rule cause m w agree few h = agreed_or_early cells other rule cause (omega arith) agree h

module _ (files : SuppliedFiles) (rules : List (List ℕ)) (claim : Claim) where
  -- a claim is judged or refused for a cause, not both, out of work and memory apart
  pub judged_or_cause : (cells other : Picture) (rule : RuleValue) (cause : Cause) → cause ≢ Memory → cause ≢ Work → IsJudged files rules claim cells other rule → IsCauseFor files rules claim cause → ⊥
  judged_or_cause cells other rule cause m w judged h = agreed_or_cause files rules (asks_of claim.kind) claim.patterns cells other rule cause m w judged.0 judged.1 h

  -- a claim that is judged is true or false, not both
  pub yes_or_no : (asks : Asks) (refutation : Refutation) (p q o v : Picture) (r s : RuleValue) → IsJudged files rules claim p o r → IsJudged files rules claim q v s
      → IsTrueClaim (next_of r) p o asks → IsReason (next_of s) q v asks refutation → ⊥
  yes_or_no asks refutation p q o v r s a b true reason =
      let one = one_agreed files rules (asks_of claim.kind) claim.patterns p q o v r s a.0 b.0 in
      let by_rule = subst (λ u. IsTrueClaim (next_of u) p o asks) one.2 true in
      let by_cells = subst (λ c. IsTrueClaim (next_of s) c o asks) one.0 by_rule in
      false_from_reason (next_of s) q v asks refutation reason (subst (λ c. IsTrueClaim (next_of s) q c asks) one.1 by_cells)
