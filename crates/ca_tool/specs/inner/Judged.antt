-- What a loop over claims judged and reported.
use Rattle.std.specs.Prelude.{◌≡◌, ℕ, List, [], ◌++◌}
use Rattle.ca_text.specs.declared.both.Both.{Both}
use Rattle.ca_text.specs.Prelude.{Claim}
use Rattle.ca_answers.specs.Prelude.{Judging}
use Rattle.ca_verify_lines.specs.declared.finding.{ReportStyle.ReportStyle, Finding.Finding}
use Rattle.ca_verify_lines.specs.Prelude.{findings_text, status_of, with_claims, answers_of, AreFindings}

-- the first claims left were judged, with these findings, and the others are left
pub record WereJudged (old new : Judging) (findings : List Finding) : Type 0 where
  pub files : new.files ≡ old.files
  pub rules : new.rules ≡ old.rules
  pub work : new.work ≡ old.work
  pub judged : List (ℕ × Claim)
  pub claims : old.claims ≡ judged ++ new.claims
  pub theirs : List (Both (List ℕ × List ℕ))
  pub patterns : old.patterns ≡ theirs ++ new.patterns
  pub holds : AreFindings (with_claims old judged theirs) findings

-- no claim is left
pub record NoneLeft (judging : Judging) : Type 0 where
  pub claims : judging.claims ≡ []
  pub patterns : judging.patterns ≡ []

-- claims were judged, the text is what is printed for them, and the code is the exit status of their answers
pub record IsReportUpTo (old new : Judging) (style : ReportStyle) (text : List ℕ) (code : ℕ) : Type 0 where
  pub findings : List Finding
  pub judged : WereJudged old new findings
  pub lines : text ≡ findings_text style findings
  pub status : code ≡ status_of (answers_of findings)

-- the same with some exit status
abbrev pub IsReportPart : Judging → Judging → ReportStyle → List ℕ → Type 0
IsReportPart old new style text = (code : ℕ) × IsReportUpTo old new style text code

-- all that was left was judged
abbrev pub WereAllJudged : Judging → Judging → Type 0
WereAllJudged old new = (findings : List Finding) × WereJudged old new findings × NoneLeft new
