-- True answers: what a yes, a no and a refusal say of the files that are supplied, and what a refusal is about, with its words.
use Rattle.std.specs.Prelude.{◌≡◌, ℕ, IsTrue, List, ◌++◌, Option, Some, None, Vec, ◌⊎◌, codes}
use Rattle.std.specs.declared.alloc.Global.{Global}
use Rattle.std.specs.List.{AllZip, AllByRecursion}
use Rattle.ca_plane.specs.Prelude.{Picture, cell, HasFewCells, HasTooManyCells}
use Rattle.ca_rule.specs.Prelude.{TableRule, RuleValue, next_of, IsRuleFault, IsSameRule}
use Rattle.ca_rule.specs.declared.{fault.RuleFault.RuleFault, table.fault.TableFault.TableFault}
use Rattle.ca_answers.specs.declared.{verdict.Answer.Answer, verdict.Verdict.Verdict, cause.Cause.Cause}
use Rattle.ca_answers.specs.declared.verdict.Verdict.TheVariants.{Yes, No, Refused}
use Rattle.ca_pattern.specs.declared.pattern_fault.PatternFault.{PatternFault}
use Rattle.ca_answers.specs.declared.cause.Cause.TheVariants.{NoFile, BadTable, BadPattern, BadRule, StateTooLarge, MixedRules, TooManyCells, Work, Memory}
use Rattle.ca_text.specs.declared.{both.Both.Both, asks.Asks.Asks}
use Rattle.ca_text.specs.Prelude.{HoldsOfBoth, HoldsOfEither, FirstBadOfBoth, FirstBad, SomeOf, Claim, asks_of, expected_cells, IsTrueClaim}
use Rattle.ca_answers.specs.{Work.MayBeUsedUp, Files.SuppliedFiles, Files.bytes_at, Refutations.IsReason}
use Rattle.ca_pattern.specs.Prelude.{IsReadable, HoldsRuleText, HoldsRuledPattern, HasRuleFault, MayWantMemory, IsQuietTable, IsTableFault, HasSmallStates, HasLargeState, rule_fault_text}
use Rattle.ca_pattern.specs.Prelude.{table_fault_text, IsPatternFault, IsPatternFaultOn, pattern_fault_text}

-- the file of a path is supplied, and this holds of its bytes
abbrev pub HoldsOfFile : SuppliedFiles → (List ℕ → Type 0) → List ℕ → Type 0
HoldsOfFile files Holds path = (bytes : List ℕ) × (bytes_at files path ≡ Some bytes) × Holds bytes

-- the file of a rule line's path is the text of this table
abbrev pub IsTableAt : SuppliedFiles → List ℕ → TableRule → Type 0
IsTableAt files path table = HoldsOfFile files (λ bytes. IsQuietTable bytes table) path

-- the files of the rule lines' paths are these tables, in the order of the lines
abbrev pub AreTables : SuppliedFiles → List (List ℕ) → List TableRule → Type 0
AreTables files rules tables = AllZip (IsTableAt files) rules tables

-- the file of a pattern's path is read, and means these cells under this rule
abbrev pub IsRuled : SuppliedFiles → List TableRule → List ℕ → Picture → RuleValue → Type 0
IsRuled files tables path cells rule = HoldsOfFile files (λ bytes. (generation : ℕ) × HoldsRuledPattern bytes tables cells rule generation) path

-- no file of this path is supplied
abbrev pub IsMissing : SuppliedFiles → List ℕ → Type 0
IsMissing files path = bytes_at files path ≡ None

-- the file of this path is there
abbrev pub IsThere : SuppliedFiles → List ℕ → Type 0
IsThere files path = (bytes : List ℕ) × (bytes_at files path ≡ Some bytes)

-- it is the text of a table that leaves the empty plane empty
abbrev pub HoldsTable : SuppliedFiles → List ℕ → Type 0
HoldsTable files path = (table : TableRule) × IsTableAt files path table

-- the file of a pattern's path is there, and it reads
abbrev pub IsReadableFile : SuppliedFiles → List ℕ → Type 0
IsReadableFile files path = HoldsOfFile files IsReadable path

-- and its rule text names a rule
abbrev pub HasRule : SuppliedFiles → List TableRule → List ℕ → Type 0
HasRule files tables path = (cells : Picture) × (rule : RuleValue) × IsRuled files tables path cells rule

-- and its states are small
abbrev pub IsSmall : SuppliedFiles → List TableRule → List ℕ → Type 0
IsSmall files tables path = (cells : Picture) × (rule : RuleValue) × IsRuled files tables path cells rule × HasSmallStates rule (cell cells)

-- the file of the path is there, and has this fault as the text of a table
abbrev pub IsBadTable : SuppliedFiles → TableFault → List ℕ → Type 0
IsBadTable files fault path = HoldsOfFile files (λ bytes. IsTableFault bytes fault) path

-- as that of a pattern
abbrev pub IsBadPattern : SuppliedFiles → PatternFault → List ℕ → Type 0
IsBadPattern files fault path = HoldsOfFile files (λ bytes. IsPatternFault bytes fault) path

-- on this line
abbrev pub IsBadPatternOn : SuppliedFiles → PatternFault → Option ℕ → List ℕ → Type 0
IsBadPatternOn files fault line path = HoldsOfFile files (λ bytes. IsPatternFaultOn bytes fault line) path

-- it is there and is read, and its rule text has this fault
abbrev pub IsUnnamed : SuppliedFiles → List TableRule → RuleFault → List ℕ → Type 0
IsUnnamed files tables fault path = HoldsOfFile files (λ bytes. HasRuleFault bytes tables fault) path

-- and that rule text is this
abbrev pub IsUnnamedBy : SuppliedFiles → List TableRule → RuleFault → Option (Vec ℕ Global) → List ℕ → Type 0
IsUnnamedBy files tables fault None path = ⊥
IsUnnamedBy files tables fault (Some text) path = HoldsOfFile files (λ bytes. HoldsRuleText text.items bytes × IsRuleFault text.items tables fault) path

-- it has a rule, and some state that is too large for it
abbrev pub IsLarge : SuppliedFiles → List TableRule → List ℕ → Type 0
IsLarge files tables path = (cells : Picture) × (rule : RuleValue) × IsRuled files tables path cells rule × HasLargeState rule (cell cells)

-- it is there, and memory may run out for it
abbrev pub WantsMemory : SuppliedFiles → List ℕ → Type 0
WantsMemory files path = HoldsOfFile files MayWantMemory path

-- the patterns of two paths have different rules
abbrev pub HaveOtherRules : SuppliedFiles → List TableRule → List ℕ → List ℕ → Type 0
HaveOtherRules files tables path other = (cells : Picture) × (rule : RuleValue) × (other_cells : Picture) × (other_rule : RuleValue)
    × IsRuled files tables path cells rule × IsRuled files tables other other_cells other_rule × (IsSameRule rule other_rule → ⊥)

-- a pattern's file is there and is read, and means these cells, of small states, under this rule
pub record IsGoodPattern (files : SuppliedFiles) (tables : List TableRule) (path : List ℕ) (cells : Picture) (rule : RuleValue) : Type 0 where
  pub ruled : IsRuled files tables path cells rule
  pub small : HasSmallStates rule (cell cells)

-- and it has too many cells
abbrev pub IsCrowded : SuppliedFiles → List TableRule → List ℕ → Type 0
IsCrowded files tables path = (cells : Picture) × (rule : RuleValue) × IsGoodPattern files tables path cells rule × HasTooManyCells (cell cells)

-- the patterns of a claim's paths mean these cells, of small states, under this rule
abbrev pub AreGood : SuppliedFiles → List TableRule → Both (List ℕ) → Picture → Picture → RuleValue → Type 0
AreGood files tables paths cells other rule =
    IsGoodPattern files tables paths.first cells rule × (other_rule : RuleValue) × IsGoodPattern files tables paths.second other other_rule × IsSameRule rule other_rule

-- A claim about patterns of these paths is judged in stages; `rules` are the paths of the text's rule lines. First: all the
-- files are there
abbrev pub FilesAreThere : SuppliedFiles → (rules : List (List ℕ)) → (paths : Both (List ℕ)) → Type 0
FilesAreThere files rules paths = HoldsOfBoth (IsThere files) paths × AllByRecursion (IsThere files) rules

-- second: those of the rule lines are these good tables
abbrev pub TablesAreGood : SuppliedFiles → (rules : List (List ℕ)) → (paths : Both (List ℕ)) → List TableRule → Type 0
TablesAreGood files rules paths tables = AreTables files rules tables × HoldsOfBoth (IsThere files) paths

-- third: the patterns' are read
abbrev pub PatternsAreRead : SuppliedFiles → (rules : List (List ℕ)) → (paths : Both (List ℕ)) → List TableRule → Type 0
PatternsAreRead files rules paths tables = AreTables files rules tables × HoldsOfBoth (IsReadableFile files) paths

-- fourth: their rule texts name rules
abbrev pub PatternsHaveRules : SuppliedFiles → (rules : List (List ℕ)) → (paths : Both (List ℕ)) → List TableRule → Type 0
PatternsHaveRules files rules paths tables = AreTables files rules tables × HoldsOfBoth (HasRule files tables) paths

-- fifth: their states are small
abbrev pub StatesAreSmall : SuppliedFiles → (rules : List (List ℕ)) → (paths : Both (List ℕ)) → List TableRule → Type 0
StatesAreSmall files rules paths tables = AreTables files rules tables × HoldsOfBoth (IsSmall files tables) paths

-- sixth: they are of one rule, and mean these cells under it
abbrev pub AgreeOn : SuppliedFiles → (rules : List (List ℕ)) → (paths : Both (List ℕ)) → Picture → Picture → RuleValue → Type 0
AgreeOn files rules paths cells other rule = (tables : List TableRule) × AreTables files rules tables × AreGood files tables paths cells other rule

-- cells are counted where the claim moves them: a spaceship's own, and those of a pattern that another becomes, moved
abbrev pub IsCounted : Asks → Type 0
IsCounted asks = IsTrue asks.moved

-- cells are counted, and are too many; and where they are counted, they aren't
abbrev pub HasTooManyCounted : Asks → Picture → Picture → Type 0
HasTooManyCounted asks cells other = IsCounted asks × HasTooManyCells (cell (expected_cells asks.expected cells other))

abbrev pub HasFewCounted : Asks → Picture → Picture → Type 0
HasFewCounted asks cells other = IsCounted asks → HasFewCells (cell (expected_cells asks.expected cells other))

-- the cause of a refusal: a claim gets through these stages, and this is wrong at the next. Out of work comes after them all. Out of
-- memory comes at any stage after the second, and only where the first of the patterns may need memory. The claim asks this, of patterns at these paths
abbrev pub HasCause : SuppliedFiles → List (List ℕ) → Asks → (paths : Both (List ℕ)) → Cause → Type 0
HasCause files rules asks paths NoFile = HoldsOfEither (IsMissing files) paths ⊎ SomeOf (IsMissing files) rules
HasCause files rules asks paths (BadTable fault) = FilesAreThere files rules paths × FirstBad (HoldsTable files) (IsBadTable files fault) rules
HasCause files rules asks paths (BadPattern fault) =
    (tables : List TableRule) × TablesAreGood files rules paths tables × FirstBadOfBoth (IsReadableFile files) (IsBadPattern files fault) paths
HasCause files rules asks paths (BadRule fault) =
    (tables : List TableRule) × PatternsAreRead files rules paths tables × FirstBadOfBoth (HasRule files tables) (IsUnnamed files tables fault) paths
HasCause files rules asks paths StateTooLarge =
    (tables : List TableRule) × PatternsHaveRules files rules paths tables × HoldsOfEither (IsLarge files tables) paths
HasCause files rules asks paths MixedRules =
    (tables : List TableRule) × StatesAreSmall files rules paths tables × HaveOtherRules files tables paths.first paths.second
HasCause files rules asks paths TooManyCells =
    (cells : Picture) × (other : Picture) × (rule : RuleValue) × AgreeOn files rules paths cells other rule × HasTooManyCounted asks cells other
HasCause files rules asks paths Work =
    (cells : Picture) × (other : Picture) × (rule : RuleValue) × AgreeOn files rules paths cells other rule × HasFewCounted asks cells other
HasCause files rules asks paths Memory = (tables : List TableRule) × TablesAreGood files rules paths tables × WantsMemory files paths.first

-- What a cause is about, beside what it says. The claim as a whole: its patterns' rules differ, or work or memory is out
abbrev pub IsOfClaim : Cause → Type 0
IsOfClaim cause = (cause ≡ MixedRules) ⊎ ((cause ≡ Work) ⊎ (cause ≡ Memory))

-- one of the claim's patterns: what `First` tells of it, by what is good of the paths before it and what is bad of its own. Only a file
-- that isn't read has a line, and only one whose rule text names no rule has that text; `rules` are the paths of the text's rule lines
abbrev pub IsOfPattern : SuppliedFiles → List (List ℕ) → Cause → (First : (Good Bad : List ℕ → Type 0) → Type 0) → Option ℕ → Option (Vec ℕ Global) → Type 0
IsOfPattern files rules NoFile First line text = (line ≡ None) × (text ≡ None) × First (IsThere files) (IsMissing files)
IsOfPattern files rules (BadPattern fault) First line text = (text ≡ None) × First (IsReadableFile files) (IsBadPatternOn files fault line)
IsOfPattern files rules (BadRule fault) First line text =
    (line ≡ None) × (tables : List TableRule) × AreTables files rules tables × First (HasRule files tables) (IsUnnamedBy files tables fault text)
IsOfPattern files rules StateTooLarge First line text =
    (line ≡ None) × (text ≡ None) × (tables : List TableRule) × AreTables files rules tables × First (IsSmall files tables) (IsLarge files tables)
IsOfPattern files rules TooManyCells First line text =
    (line ≡ None) × (text ≡ None) × (tables : List TableRule) × AreTables files rules tables × First (IsSmall files tables) (IsCrowded files tables)
IsOfPattern files rules cause First line text = ⊥

-- a rule line's file, which has this path: it is the first that is missing, where all patterns' files are there; or the first that is no
-- good table. `patterns` are the paths of the claim's patterns
abbrev pub IsOfRuleFile : SuppliedFiles → (rules : List (List ℕ)) → (patterns : Both (List ℕ)) → Cause → List ℕ → Type 0
IsOfRuleFile files rules patterns NoFile path =
    HoldsOfBoth (IsThere files) patterns × FirstBad (IsThere files) (λ r. (r ≡ path) × IsMissing files r) rules
IsOfRuleFile files rules patterns (BadTable fault) path =
    FirstBad (HoldsTable files) (λ r. (r ≡ path) × IsBadTable files fault r) rules
IsOfRuleFile files rules patterns cause path = ⊥

-- why a claim isn't judged, in words (our own; docs/CLAIMS.md)
abbrev pub cause_text : Cause → List ℕ
cause_text NoFile = codes "no file"
cause_text (BadTable fault) = table_fault_text fault
cause_text (BadPattern fault) = pattern_fault_text fault
cause_text (BadRule fault) = codes "bad rule: " ++ rule_fault_text fault
cause_text StateTooLarge = codes "state too large"
cause_text MixedRules = codes "mixed rules"
cause_text TooManyCells = codes "too many cells"
cause_text Work = codes "work"
cause_text Memory = codes "memory"

-- the cause is that of the claim
abbrev pub IsCauseFor : SuppliedFiles → List (List ℕ) → Claim → Cause → Type 0
IsCauseFor files rules claim cause = HasCause files rules (asks_of claim.kind) claim.patterns cause

-- no cause but out of work or memory is that of the claim: its patterns agree, and the cells that are counted aren't too many
abbrev pub IsJudged : SuppliedFiles → List (List ℕ) → Claim → Picture → Picture → RuleValue → Type 0
IsJudged files rules claim cells other rule = AgreeOn files rules claim.patterns cells other rule × HasFewCounted (asks_of claim.kind) cells other

-- the work that a claim may take is no more than it may need: its patterns agree, and mean cells for which `work` units
-- of work may be used up
abbrev pub MayUseUp : SuppliedFiles → List (List ℕ) → (work : ℕ) → Claim → Type 0
MayUseUp files rules work claim = (cells : Picture) × (other : Picture) × (rule : RuleValue) × IsJudged files rules claim cells other rule
    × MayBeUsedUp work (asks_of claim.kind) (cell cells)

-- a claim is out of work only there
abbrev pub IsWithinWork : SuppliedFiles → List (List ℕ) → (work : ℕ) → Claim → Verdict → Type 0
IsWithinWork files rules work claim verdict = verdict ≡ Refused Work → MayUseUp files rules work claim

-- so are all claims that are out of work
abbrev pub AreWithinWork : SuppliedFiles → List (List ℕ) → (work : ℕ) → List (ℕ × Claim) → List Answer → Type 0
AreWithinWork files rules work claims answers = AllZip (λ numbered answer. IsWithinWork files rules work numbered.1 answer.verdict) claims answers

-- a verdict is true: a yes of a claim that is true of the planes that the files mean, a no of one that is false, with the
-- reason, and a refusal with its cause; a yes, a no and out of work come only where no other cause but out of memory holds
abbrev pub IsTrueVerdict : SuppliedFiles → List (List ℕ) → Claim → Verdict → Type 0
IsTrueVerdict files rules claim Yes = (cells : Picture) × (other : Picture) × (rule : RuleValue) × IsJudged files rules claim cells other rule
    × IsTrueClaim (next_of rule) cells other (asks_of claim.kind)
IsTrueVerdict files rules claim (No refutation) = (cells : Picture) × (other : Picture) × (rule : RuleValue) × IsJudged files rules claim cells other rule
    × IsReason (next_of rule) cells other (asks_of claim.kind) refutation
IsTrueVerdict files rules claim (Refused cause) = IsCauseFor files rules claim cause

-- the answer has the number of the claim's line, and a true verdict
abbrev pub IsTrueAnswer : SuppliedFiles → List (List ℕ) → ℕ × Claim → Answer → Type 0
IsTrueAnswer files rules numbered answer = (answer.line ≡ numbered.0) × IsTrueVerdict files rules numbered.1 answer.verdict

-- one answer for each claim, in order, each of them true; `rules` are the paths of the text's rule lines
abbrev pub AreTrueAnswers : SuppliedFiles → List (List ℕ) → List (ℕ × Claim) → List Answer → Type 0
AreTrueAnswers files rules claims answers = AllZip (IsTrueAnswer files rules) claims answers
