-- What a note on a verdict says of the claim's patterns and of the files that are supplied.
use Rattle.std.specs.Prelude.{◌≡◌, ◌≢◌, ℕ, ℤ, List}
use Rattle.ca_text.specs.declared.both.Both.{Both}
use Rattle.ca_answers.specs.declared.{note.Note.Note, verdict.Verdict.Verdict, cause.Cause.Cause}
use Rattle.ca_answers.specs.declared.note.Note.TheVariants.{Nothing, Cell, Pattern, RuleFile}
use Rattle.ca_answers.specs.declared.verdict.Verdict.TheVariants.{Yes, No, Refused}
use Rattle.ca_answers.specs.declared.verdict.Refutation.TheVariants.{Empty, Differs, Earlier, Died}
use Rattle.ca_answers.specs.{Answers.IsOfClaim, Answers.IsOfPattern, Answers.IsOfRuleFile, Files.SuppliedFiles}
use Rattle.ca_text.specs.Prelude.{map_both, FirstBadOfBoth}

-- the first bad pattern is the one with this name and path; patterns are given by their names and paths
abbrev pub IsFirstBad : Both (List ℕ × List ℕ) → (name path : List ℕ) → (Good Bad : List ℕ → Type 0) → Type 0
IsFirstBad patterns name path Good Bad = FirstBadOfBoth (λ p. Good p.1) (λ p. (p ≡ (name, path)) × Bad p.1) patterns

-- what a note says of a verdict on a claim about these patterns
abbrev pub IsNote : SuppliedFiles → List (List ℕ) → Both (List ℕ × List ℕ) → Verdict → Note → Type 0
IsNote files rules patterns verdict Nothing = Unit {0}
IsNote files rules patterns verdict (Cell name) = (x : ℤ) × (y : ℤ) × (found : ℕ) × (expected : ℕ) × (generations : ℕ)
    × (verdict ≡ No (Differs x y found expected generations)) × (patterns.first.0 ≡ name.now)
IsNote files rules patterns verdict (Pattern name path line text) = (cause : Cause) × (verdict ≡ Refused cause)
    × IsOfPattern files rules cause (IsFirstBad patterns name.now path.now) line text
IsNote files rules patterns verdict (RuleFile path) = (cause : Cause) × (verdict ≡ Refused cause) × IsOfRuleFile files rules (map_both (λ p. p.1) patterns) cause path.now

-- on these verdicts a note is always given: cells that differ, and all refusals but those whose cause is about the claim as a whole
abbrev pub HasNote : Verdict → Type 0
HasNote Yes = ⊥
HasNote (No Empty) = ⊥
HasNote (No (Differs x y found expected generations)) = Unit {0}
HasNote (No (Earlier m dx dy)) = ⊥
HasNote (No (Died m)) = ⊥
HasNote (Refused cause) = IsOfClaim cause → ⊥

-- where the verdict has a note, it is given
abbrev pub HasItsNote : Verdict → Note → Type 0
HasItsNote verdict note = HasNote verdict → note ≢ Nothing
