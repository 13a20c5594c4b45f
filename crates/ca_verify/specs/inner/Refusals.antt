-- What the cause of a refusal is about.
use Rattle.std.specs.Prelude.{◌≢◌, ℕ, ◌<◌, List, length}
use Rattle.ca_text.specs.declared.{asks.Asks.Asks, both.Both.Both}
use Rattle.ca_verify.specs.declared.refusal.{About.About, Refusal.Refusal}
use Rattle.ca_verify.specs.declared.refusal.About.TheVariants as about
use Rattle.ca_answers.specs.declared.{cause.Cause.Cause, verdict.Verdict.Verdict}
use Rattle.ca_answers.specs.declared.cause.Cause.TheVariants.{Work}
use Rattle.ca_answers.specs.declared.verdict.Verdict.TheVariants.{Yes, No, Refused}
use Rattle.ca_text.specs.Prelude.{Claim, path_at}
use Rattle.ca_answers.specs.Prelude.{SuppliedFiles, HasCause, IsOfClaim, IsOfPattern, IsOfRuleFile, IsTrueVerdict, IsWithinWork}
use Rattle.ca_verify.specs.inner.Patterns.{FirstBadAt}

-- the cause of a refusal is about this; `paths` are all paths of the text, `rules` those of its rule lines, and `patterns` those of the
-- claim's patterns
abbrev pub IsCauseAbout : SuppliedFiles → (paths rules : List (List ℕ)) → (patterns : Both (List ℕ)) → Cause → About → Type 0
IsCauseAbout files paths rules patterns cause about.Claim = IsOfClaim cause
IsCauseAbout files paths rules patterns cause (about.Pattern part line text) = IsOfPattern files rules cause (FirstBadAt part patterns) line text
IsCauseAbout files paths rules patterns cause (about.RuleFile place) = (place < length paths) × IsOfRuleFile files rules patterns cause (path_at paths place)

-- a claim that asks this of these patterns is refused for this cause, which is about this, before any work is done
pub record IsRefusal (files : SuppliedFiles) (paths rules : List (List ℕ)) (asks : Asks) (patterns : Both (List ℕ)) (refusal : Refusal) : Type 0 where
  pub holds : HasCause files rules asks patterns refusal.cause
  pub idle : refusal.cause ≢ Work
  pub on : IsCauseAbout files paths rules patterns refusal.cause refusal.about

-- the cause of a verdict is about this, where it is a refusal
abbrev pub IsOnVerdict : SuppliedFiles → (paths rules : List (List ℕ)) → (patterns : Both (List ℕ)) → Verdict → About → Type 0
IsOnVerdict files paths rules patterns Yes about = Unit {0}
IsOnVerdict files paths rules patterns (No refutation) about = Unit {0}
IsOnVerdict files paths rules patterns (Refused cause) about = IsCauseAbout files paths rules patterns cause about

-- the verdict is true, out of work only within the work that the claim may take, and its cause is about this
pub record IsJudgedOn (files : SuppliedFiles) (paths rules : List (List ℕ)) (work : ℕ) (claim : Claim) (verdict : Verdict) (about : About) : Type 0 where
  pub holds : IsTrueVerdict files rules claim verdict
  pub within : IsWithinWork files rules work claim verdict
  pub on : IsOnVerdict files paths rules claim.patterns verdict about
