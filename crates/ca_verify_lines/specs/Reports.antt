-- What a run on claims writes.
use Rattle.std.specs.Prelude.{◌≡◌, ◌≢◌, ℕ, List, [], map, take, Option, Result}
use Rattle.std.specs.List.{AllZip, AllByRecursion}
use Rattle.ca_plane.specs.Prelude.{Counted}
use Rattle.ca_text.specs.declared.both.Both.{Both}
use Rattle.ca_text.specs.Prelude.{ClaimText, Claim}
use Rattle.ca_answers.specs.Prelude.{SuppliedFiles, Judging, IsNote, HasItsNote, AreWithinWork, AreTrueAnswers}
use Rattle.ca_answers.specs.declared.verdict.Answer.{Answer}
use Rattle.ca_report.specs.declared.fault.ToolFault.{ToolFault}
use Rattle.ca_report.specs.declared.fault.ToolFault.TheVariants.{Memory}
use Rattle.ca_verify_lines.specs.declared.finding.{ReportStyle.ReportStyle, Finding.Finding}
use Rattle.ca_verify_lines.specs.Verdicts.{answer_lines, findings_text, status_of}
use Rattle.ca_report.specs.Prelude.{WritesOneOf}

-- some claims with their patterns, over the files and the rule lines of others, and with as much work
abbrev pub with_claims : Judging → List (ℕ × Claim) → List (Both (List ℕ × List ℕ)) → Judging
with_claims judging claims patterns = record { files = judging.files; rules = judging.rules; claims = claims; patterns = patterns; work = judging.work }

-- all claims of a text, over these files, each of which may take `work` units of work
abbrev pub all_claims : SuppliedFiles → ClaimText → (work : ℕ) → Judging
all_claims files asked work = record { files = files; rules = asked.rules; claims = asked.claims; patterns = asked.patterns; work = work }

-- the first n of some claims
abbrev pub first_claims : ℕ → Judging → Judging
first_claims n judging = with_claims judging (take n judging.claims) (take n judging.patterns)

-- a plain report on these claims: the text is the lines of true answers to them, out of work only within what each may take, and the code is the exit status of the answers
pub record IsPlainReport (judging : Judging) (text : List ℕ) (code : ℕ) : Type 0 where
  pub answers : List Answer
  pub holds : AreTrueAnswers judging.files judging.rules judging.claims answers
  pub within : AreWithinWork judging.files judging.rules judging.work judging.claims answers
  pub lines : text ≡ answer_lines answers
  pub status : code ≡ status_of answers

-- the answers of findings
abbrev pub answers_of : List Finding → List Answer
answers_of findings = map (λ finding. finding.answer) findings

-- one note for each answer, in order, each of them true of its verdict and of the claim's patterns
abbrev pub AreTrueNotes : SuppliedFiles → List (List ℕ) → List (Both (List ℕ × List ℕ)) → List Finding → Type 0
AreTrueNotes files rules patterns findings = AllZip (λ its finding. IsNote files rules its finding.answer.verdict finding.note) patterns findings

-- findings on these claims: true answers to them, out of work only within what each may take, and true notes on the answers, where each verdict that has a note is given with it
pub record AreFindings (judging : Judging) (findings : List Finding) : Type 0 where
  pub answers : AreTrueAnswers judging.files judging.rules judging.claims (answers_of findings)
  pub within : AreWithinWork judging.files judging.rules judging.work judging.claims (answers_of findings)
  pub notes : AreTrueNotes judging.files judging.rules judging.patterns findings
  pub given : AllByRecursion (λ finding. HasItsNote finding.answer.verdict finding.note) findings

-- a report on these claims: the text is what is printed for findings on them, and the code is the exit status of the answers
pub record IsReport (judging : Judging) (style : ReportStyle) (text : List ℕ) (code : ℕ) : Type 0 where
  pub findings : List Finding
  pub holds : AreFindings judging findings
  pub lines : text ≡ findings_text style findings
  pub status : code ≡ status_of (answers_of findings)

-- a report on some number of the first claims
pub record IsReportOnFirst (judging : Judging) (style : ReportStyle) (text : List ℕ) : Type 0 where
  pub count : ℕ
  pub code : ℕ
  pub report : IsReport (first_claims count judging) style text code

-- memory was refused for a text that makes a claim
pub record NeedsMemory (judging : Judging) (fault : ToolFault) : Type 0 where
  pub refused : fault ≡ Memory
  pub some : judging.claims ≢ []

-- a report on these claims is written, with their status; or a first part of a report on the first claims, and then a write fails; or nothing,
-- and memory was refused for a text that makes a claim
abbrev pub WritesReport : {W : Type 0} → (W → Option (List ℕ)) → Counted W → Counted W → Judging → ReportStyle → Result ℕ ToolFault → Type 0
WritesReport contents old new judging style result =
    WritesOneOf contents old new (IsReport judging style) (IsReportOnFirst judging style) (NeedsMemory judging) result

-- the same of a plain report, but that the first part is one of a report on all claims
abbrev pub WritesPlainReport : {W : Type 0} → (W → Option (List ℕ)) → Counted W → Counted W → Judging → Result ℕ ToolFault → Type 0
WritesPlainReport contents old new judging result =
    WritesOneOf contents old new (IsPlainReport judging) (λ text. (code : ℕ) × IsPlainReport judging text code) (NeedsMemory judging) result
