-- The bytes that are printed for an answer, and the exit status (our own; docs/CLAIMS.md).
use Rattle.std.specs.Prelude.{ℕ, ℤ, List, [], ◌∷◌, ◌++◌, Bool, true, false, Option, None, Some, Vec, codes, decimal, if◌then◌else◌}
use Rattle.std.specs.declared.alloc.Global.{Global}
use Rattle.std.specs.Fmt.{signed_decimal}
use Rattle.std.specs.List.{flat_map, list_any}
use Rattle.std.specs.Str.{bytes_eq}
use Rattle.ca_answers.specs.declared.{verdict.Answer.Answer, verdict.Verdict.Verdict, verdict.Refutation.Refutation, cause.Cause.Cause, note.Note.Note}
use Rattle.ca_answers.specs.declared.verdict.Verdict.TheVariants.{Yes, No, Refused}
use Rattle.ca_answers.specs.declared.verdict.Refutation.TheVariants.{Empty, Differs, Earlier, Died}
use Rattle.ca_answers.specs.declared.cause.Cause.TheVariants as causes
use Rattle.ca_pattern.specs.declared.file.File.{File}
use Rattle.ca_answers.specs.declared.note.Note.TheVariants as notes
use Rattle.ca_report.specs.declared.{rule_folder.FaultyRule.FaultyRule, absence.MissingFile.MissingFile, remedy.Remedy.Remedy}
use Rattle.ca_verify_lines.specs.declared.finding.{ReportStyle.ReportStyle, Finding.Finding}
use Rattle.ca_report.specs.Prelude.{escaped, cause_remedy, bytes_of, remedy_line, generations_word, at_line, missing_words, file_line, rule_words}
use Rattle.ca_pattern.specs.Prelude.{table_line, table_text}
use Rattle.ca_answers.specs.Prelude.{cause_text}

-- an earlier return of a pattern
abbrev pub return_text : ℕ → ℤ → ℤ → List ℕ
return_text generations dx dy = codes "the same after " ++ (decimal generations ++ (codes ", shifted by " ++ (signed_decimal dx ++ (codes "," ++ signed_decimal dy))))

-- why a claim is false
abbrev pub refutation_text : Refutation → List ℕ
refutation_text Empty = codes "empty"
refutation_text (Differs x y found claimed gens) = codes "cells differ after " ++ decimal gens
refutation_text (Earlier m dx dy) = return_text m dx dy
refutation_text (Died m) = codes "empty after " ++ decimal m

-- what is said of a claim
abbrev pub verdict_text : Verdict → List ℕ
verdict_text Yes = codes "yes"
verdict_text (No refutation) = codes "no, " ++ refutation_text refutation
verdict_text (Refused cause) = codes "refused, " ++ cause_text cause

-- the line of an answer
abbrev pub answer_line : Answer → List ℕ
answer_line answer = codes "line " ++ (decimal answer.line ++ (codes ": " ++ (verdict_text answer.verdict ++ 10 ∷ [])))

-- a line for each answer, in order
abbrev pub answer_lines : List Answer → List ℕ
answer_lines answers = flat_map answer_line answers

-- whether the claim isn't judged
abbrev pub is_refusal : Verdict → Bool
is_refusal Yes = false
is_refusal (No refutation) = false
is_refusal (Refused cause) = true

-- whether the claim is false
abbrev pub is_no : Verdict → Bool
is_no Yes = false
is_no (No refutation) = true
is_no (Refused cause) = false

-- the exit status: 2 where an answer is refused, else 1 where one is no, else 0
abbrev pub status_of : List Answer → ℕ
status_of answers = if list_any (λ a. is_refusal a.verdict) answers then 2 else (if list_any (λ a. is_no a.verdict) answers then 1 else 0)

-- the line about a cell that differs, of the pattern with this name, after a text that stands before each line
abbrev pub cell_line : List ℕ → List ℕ → Refutation → List ℕ
cell_line before name (Differs x y found claimed gens) =
    before ++ (codes "  " ++ (escaped name ++ (codes " at " ++ (signed_decimal x ++ (codes "," ++ (signed_decimal y ++ (codes ": " ++ (decimal found
    ++ (codes " after " ++ (decimal gens ++ (generations_word gens ++ (codes ", claimed " ++ (decimal claimed ++ 10 ∷ [])))))))))))))
cell_line before name refutation = []

-- the faulty line of a rule line's file
abbrev pub cause_line : Cause → Option ℕ
cause_line (causes.BadTable fault) = Some (table_line fault)
cause_line cause = None

-- the line of a note on a no
abbrev pub no_note_text : List ℕ → Refutation → Note → List ℕ
no_note_text before refutation (notes.Cell name) = cell_line before name.now refutation
no_note_text before refutation note = []

-- the first of some faulty rule files that was looked for by this name
abbrev pub faulty_named : List FaultyRule → List ℕ → Option FaultyRule
faulty_named [] name = None
faulty_named (f ∷ fs) name = if bytes_eq f.name.now name then Some f else faulty_named fs name

-- the path of a faulty rule file, the line of its fault, and what is wrong there
abbrev pub faulty_words : Option FaultyRule → List ℕ
faulty_words None = []
faulty_words (Some file) = codes ": " ++ (escaped file.path.now ++ (codes ": " ++ table_text (λ line. codes "line " ++ decimal line) file.fault))

-- the faulty rule file that was looked for by a rule text, where there is one
abbrev pub faulty_rule_words : List FaultyRule → Option (Vec ℕ Global) → List ℕ
faulty_rule_words faulty None = []
faulty_rule_words faulty (Some text) = faulty_words (faulty_named faulty text.items)

-- the line about the file of a pattern with this name: why it is missing, the line of its fault, or its rule text, and the rule file of that name that is faulty
abbrev pub noted_line : List ℕ → List FaultyRule → List MissingFile → List ℕ → List ℕ → Option ℕ → Option (Vec ℕ Global) → List ℕ
noted_line before faulty missing name path line text = before ++ (codes "  " ++ (escaped name ++ (codes ": " ++ (escaped path ++ (missing_words missing path
    ++ (at_line line ++ (rule_words text ++ (faulty_rule_words faulty text ++ 10 ∷ []))))))))

-- the line of a note on a refusal
abbrev pub refusal_note_text : List ℕ → List FaultyRule → List MissingFile → Cause → Note → List ℕ
refusal_note_text before faulty missing cause (notes.Pattern name path line text) = noted_line before faulty missing name.now path.now line text
refusal_note_text before faulty missing cause (notes.RuleFile path) = file_line before missing (codes "rule file") path.now (cause_line cause)
refusal_note_text before faulty missing cause note = []

-- the second line, of a note on a verdict, where there is something to tell
abbrev pub note_text : List ℕ → List FaultyRule → List MissingFile → Verdict → Note → List ℕ
note_text before faulty missing Yes note = []
note_text before faulty missing (No refutation) note = no_note_text before refutation note
note_text before faulty missing (Refused cause) note = refusal_note_text before faulty missing cause note

-- whether a claim is refused, and there is a line of a note on that
abbrev pub is_noted_refusal : Verdict → Note → Bool
is_noted_refusal (Refused cause) (notes.Pattern name path line text) = true
is_noted_refusal (Refused cause) (notes.RuleFile path) = true
is_noted_refusal verdict note = false

-- the second line for a claim, where answers are explained
abbrev pub second_line : ReportStyle → Finding → List ℕ
second_line style finding = if style.explained then note_text style.before.now style.faulty.now style.missing.now finding.answer.verdict finding.note else []

-- what helps, but for a rule whose file was found and is faulty: the line before tells that
abbrev pub remedy_beside : Option FaultyRule → Option Remedy → Option Remedy
remedy_beside None remedy = remedy
remedy_beside (Some file) remedy = None

-- what helps against a cause that is about the file of a pattern with these bytes, whose rule file may be one of the faulty ones
abbrev pub noted_remedy : List FaultyRule → Cause → List ℕ → Option (Vec ℕ Global) → Option Remedy
noted_remedy faulty cause bytes None = cause_remedy cause bytes None
noted_remedy faulty cause bytes (Some text) = remedy_beside (faulty_named faulty text.items) (cause_remedy cause bytes (Some text))

-- the line that says what helps, of a note on a refusal that is about the file of a pattern
abbrev pub note_remedy_line : List ℕ → List FaultyRule → List File → Cause → Note → List ℕ
note_remedy_line before faulty files cause (notes.Pattern name path line text) = remedy_line before (noted_remedy faulty cause (bytes_of files path.now) text) path.now text
note_remedy_line before faulty files cause note = []

abbrev pub verdict_remedy_line : List ℕ → List FaultyRule → List File → Verdict → Note → List ℕ
verdict_remedy_line before faulty files (Refused cause) note = note_remedy_line before faulty files cause note
verdict_remedy_line before faulty files verdict note = []

-- the last line for a claim, where answers are explained
abbrev pub last_line : ReportStyle → Finding → List ℕ
last_line style finding = if style.explained then verdict_remedy_line style.before.now style.faulty.now style.files.now finding.answer.verdict finding.note else []

-- what is printed for a claim: the line of its answer, and where answers are explained the second line, and the one that says what helps
abbrev pub finding_text : ReportStyle → Finding → List ℕ
finding_text style finding = (style.before.now ++ answer_line finding.answer) ++ (second_line style finding ++ last_line style finding)

-- what is printed for all claims, in order
abbrev pub findings_text : ReportStyle → List Finding → List ℕ
findings_text style findings = flat_map (finding_text style) findings
