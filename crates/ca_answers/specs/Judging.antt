-- What is left to be judged.
use Rattle.std.specs.Prelude.{◌≡◌, ℕ, List, [], ◌∷◌}
use Rattle.ca_text.specs.declared.both.Both.{Both}
use Rattle.ca_answers.specs.declared.{verdict.Answer.Answer, note.Note.Note}
use Rattle.ca_text.specs.Prelude.{Claim}
use Rattle.ca_answers.specs.{Answers.IsTrueAnswer, Answers.IsWithinWork, Notes.IsNote, Files.SuppliedFiles}

-- the paths and bytes of the files that are supplied; the paths of the text's rule lines; the claims that are left, with the numbers of their
-- lines; for each of these the names and paths of its patterns; and how much work each may take
pub record Judging : Type 0 where
  pub files : SuppliedFiles
  pub rules : List (List ℕ)
  pub claims : List (ℕ × Claim)
  pub patterns : List (Both (List ℕ × List ℕ))
  pub work : ℕ

-- the first claim left was judged, by a true answer, which is out of work only within the work that a claim may take, and the others are left
pub record Judges (old new : Judging) (answer : Answer) : Type 0 where
  pub files : new.files ≡ old.files
  pub rules : new.rules ≡ old.rules
  pub work : new.work ≡ old.work
  pub claim : ℕ × Claim
  pub claims : old.claims ≡ claim ∷ new.claims
  pub its_patterns : Both (List ℕ × List ℕ)
  pub patterns : old.patterns ≡ its_patterns ∷ new.patterns
  pub holds : IsTrueAnswer old.files old.rules claim answer
  pub within : IsWithinWork old.files old.rules old.work claim.1 answer.verdict

-- and the note is true of its verdict
pub record JudgesAndNotes (old new : Judging) (answer : Answer) (note : Note) : Type 0 where
  pub judges : Judges old new answer
  pub noted : IsNote old.files old.rules judges.its_patterns answer.verdict note

-- no claim is left, and nothing changed
abbrev pub IsDone : Judging → Judging → Type 0
IsDone old new = (old.claims ≡ []) × (old.patterns ≡ []) × (new ≡ old)
