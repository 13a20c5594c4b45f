-- What is kept while the claims of a text are judged.
use Rattle.std.specs.Prelude.{◌≡◌, ◌≢◌, ℕ, ◌≤◌, List, [], drop, length, slice_get, Option, Some}
use Rattle.std.specs.Borrow.{Bor}
use Rattle.ca_text.specs.declared.both.Both.{Both}
use Rattle.ca_verify.specs.declared.verifier.tables.Tables.{Tables}
use Rattle.ca_answers.specs.declared.{verdict.Answer.Answer, note.Note.Note}
use Rattle.ca_pattern.specs.declared.limits.Limits.{Limits}
use Rattle.ca_pattern.specs.Prelude.{AreGoodLimits}
use Rattle.ca_text.specs.Prelude.{ClaimText, Claim}
use Rattle.ca_answers.specs.Prelude.{SuppliedFiles, IsTrueAnswer, IsWithinWork, Judging, IsNote, HasItsNote}
use Rattle.ca_verify.specs.NeededFiles.{AreFound}

-- these are kept, if the text makes a claim; the claim with this index is the next, or all are judged; and the limits are good
pub record IsKeptOf (files : SuppliedFiles) (asked : ClaimText)
    (found : List (Option (Bor (List ℕ)))) (tables : Tables) (index : ℕ) (limits : Limits) : Type 0 where
  pub kept : asked.claims ≢ [] → AreFound files asked found tables
  pub within : index ≤ length asked.claims
  pub limited : AreGoodLimits limits

-- what is left to be judged of these files and claims, from the claim with this index onwards, each of which may take
-- `work` units of work
abbrev pub left_from : SuppliedFiles → ClaimText → (index work : ℕ) → Judging
left_from files asked index work = record {
  files = files;
  rules = asked.rules;
  claims = drop index asked.claims;
  patterns = drop index asked.patterns;
  work = work;
}

-- the answer to the claim with this index is true, and so is the note on it, which is given where the verdict has one
pub record IsAnswerTo (files : SuppliedFiles) (asked : ClaimText) (index work : ℕ) (answer : Answer) (note : Note) : Type 0 where
  pub claim : ℕ × Claim
  pub at : slice_get asked.claims index ≡ Some claim
  pub holds : IsTrueAnswer files asked.rules claim answer
  pub within : IsWithinWork files asked.rules work claim.1 answer.verdict
  pub patterns : Both (List ℕ × List ℕ)
  pub named : slice_get asked.patterns index ≡ Some patterns
  pub noted : IsNote files asked.rules patterns answer.verdict note
  pub given : HasItsNote answer.verdict note
