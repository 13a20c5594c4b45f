-- Claims judged and reported one after another.
use Rattle.std.proofs.Common.{◌≡◌, ℕ, List, [], ◌∷◌, ◌++◌, length, take, Option, false, if◌then◌else◌, refl, sym, ap, ◌∙◌, subst, append_assoc}
use Rattle.std.specs.List.{AllZip}
use Rattle.std.specs.Io.KnownBytes.{Appends}
use Rattle.std.proofs.lemmas.List.{append-nil, map-append, length-map}
use Rattle.std.proofs.lemmas.List.Concat.{flat_map-append}
use Rattle.std.proofs.lemmas.Slice.Zip.{AllZip-long}
use Rattle.ca_plane.specs.Prelude.{AppendsPrefix}
use Rattle.ca_plane.proofs.Sends.{sent_both, prefix_of_first, prefix_of_second}
use Rattle.ca_text.specs.declared.both.Both.{Both}
use Rattle.ca_text.specs.Prelude.{Claim}
use Rattle.ca_answers.specs.declared.{verdict.Answer.Answer, note.Note.Note}
use Rattle.ca_answers.specs.Prelude.{SuppliedFiles, AreWithinWork, IsWithinWork, AreTrueAnswers, IsTrueAnswer, IsNote, HasItsNote, Judging, JudgesAndNotes}
use Rattle.ca_verify_lines.specs.declared.finding.{ReportStyle.ReportStyle, Finding.Finding}
use Rattle.ca_verify_lines.specs.Prelude.{answer_line, answer_lines, note_text, second_line, verdict_remedy_line, last_line, finding_text, findings_text, status_of, answers_of, AreTrueNotes}
use Rattle.ca_verify_lines.specs.Prelude.{AreFindings, IsPlainReport, IsReport, IsReportOnFirst}
use Rattle.ca_tool.specs.inner.Judged.{WereJudged, NoneLeft, IsReportUpTo, IsReportPart, WereAllJudged}
use Rattle.ca_plane.proofs.Elements.{all_append}

-- pairs, and then other pairs
zip_append : {X Y : Type 0} (R : X → Y → Type 0) (xs : List X) (ys : List Y) (zs : List X) (ws : List Y) → AllZip R xs ys → AllZip R zs ws → AllZip R (xs ++ zs) (ys ++ ws)
zip_append R [] [] zs ws all more = more
zip_append R [] (y ∷ ys) zs ws all more = absurd all
zip_append R (x ∷ xs) [] zs ws all more = absurd all
zip_append R (x ∷ xs) (y ∷ ys) zs ws all more = (all.0, zip_append R xs ys zs ws all.1 more)

-- the first of two lists, by its length
front : {X : Type 0} (xs ys : List X) (n : ℕ) → n ≡ length xs → take n (xs ++ ys) ≡ xs
front [] ys n e = rw e refl
front (x ∷ xs) ys n e = rw e (ap (λ l. x ∷ l) (front xs ys (length xs) refl))

-- findings on some claims, and then on others
findings_then : (files : SuppliedFiles) (rules : List (List ℕ)) (work : ℕ) (claims more : List (ℕ × Claim)) (patterns others : List (Both (List ℕ × List ℕ))) (xs ys : List Finding)
    → AreFindings (record { files = files; rules = rules; claims = claims; patterns = patterns; work = work }) xs → AreFindings (record { files = files; rules = rules; claims = more; patterns = others; work = work }) ys
    → AreFindings (record { files = files; rules = rules; claims = claims ++ more; patterns = patterns ++ others; work = work }) (xs ++ ys)
findings_then files rules work claims more patterns others xs ys first second = record {
  answers = subst (AreTrueAnswers files rules (claims ++ more)) (sym (map-append (λ (f : Finding). f.answer) xs ys))
      (zip_append (IsTrueAnswer files rules) claims (answers_of xs) more (answers_of ys) first.answers second.answers);
  within = subst (AreWithinWork files rules work (claims ++ more)) (sym (map-append (λ (f : Finding). f.answer) xs ys))
      (zip_append (λ (c : ℕ × Claim) (a : Answer). IsWithinWork files rules work c.1 a.verdict) claims (answers_of xs) more (answers_of ys) first.within second.within);
  notes = zip_append (λ its (f : Finding). IsNote files rules its f.answer.verdict f.note) patterns xs others ys first.notes second.notes;
  given = all_append (λ (f : Finding). HasItsNote f.answer.verdict f.note) xs ys first.given second.given;
}

-- no claim was judged yet
pub judged_none : (judging : Judging) → WereJudged judging judging []
judged_none judging = record { files = refl; rules = refl; work = refl; judged = []; claims = refl; theirs = []; patterns = refl; holds = record { answers = tt; within = tt; notes = tt; given = tt } }

-- one was
pub judged_one : (old new : Judging) (finding : Finding) → JudgesAndNotes old new finding.answer finding.note → HasItsNote finding.answer.verdict finding.note
    → WereJudged old new (finding ∷ [])
judged_one old new finding one given = record {
  files = one.judges.files;
  rules = one.judges.rules;
  work = one.judges.work;
  judged = one.judges.claim ∷ [];
  claims = one.judges.claims;
  theirs = one.judges.its_patterns ∷ [];
  patterns = one.judges.patterns;
  holds = record { answers = (one.judges.holds, tt); within = (one.judges.within, tt); notes = (one.noted, tt); given = (given, tt) };
}

-- some were, and then others
pub judged_then : (old mid new : Judging) (xs ys : List Finding) → WereJudged old mid xs → WereJudged mid new ys → WereJudged old new (xs ++ ys)
judged_then old mid new xs ys first second = record {
  files = second.files ∙ first.files;
  rules = second.rules ∙ first.rules;
  work = second.work ∙ first.work;
  judged = first.judged ++ second.judged;
  claims = first.claims ∙ ap (λ l. first.judged ++ l) second.claims ∙ sym (append_assoc first.judged second.judged new.claims);
  theirs = first.theirs ++ second.theirs;
  patterns = first.patterns ∙ ap (λ l. first.theirs ++ l) second.patterns ∙ sym (append_assoc first.theirs second.theirs new.patterns);
  holds = findings_then old.files old.rules old.work first.judged second.judged first.theirs second.theirs xs ys first.holds
      (subst (λ f. AreFindings (record { files = f; rules = old.rules; claims = second.judged; patterns = second.theirs; work = old.work }) ys) first.files
      (subst (λ r. AreFindings (record { files = mid.files; rules = r; claims = second.judged; patterns = second.theirs; work = old.work }) ys) first.rules
      (subst (λ w. AreFindings (record { files = mid.files; rules = mid.rules; claims = second.judged; patterns = second.theirs; work = w }) ys) first.work second.holds)));
}

-- some were, and then one more
pub judged_more : (old mid new : Judging) (answer : Answer) (note : Note) → (findings : List Finding) × WereJudged old mid findings → JudgesAndNotes mid new answer note → HasItsNote answer.verdict note
    → (findings : List Finding) × WereJudged old new findings
judged_more old mid new answer note (findings, so_far) one given =
    let finding : Finding = record { answer = answer; note = note } in
    (findings ++ finding ∷ [], judged_then old mid new findings (finding ∷ []) so_far (judged_one mid new finding one given))

-- what is printed for some claims and for one more
text_more : (style : ReportStyle) (findings : List Finding) (finding : Finding) → findings_text style (findings ++ finding ∷ []) ≡ findings_text style findings ++ finding_text style finding
text_more style findings finding = flat_map-append (finding_text style) findings (finding ∷ []) ∙ ap (λ l. findings_text style findings ++ l) (append-nil (finding_text style finding))

-- one claim more was judged and reported
pub report_more : (old mid new : Judging) (style : ReportStyle) (finding : Finding) (text : List ℕ) (code next : ℕ) → (so_far : IsReportUpTo old mid style text code) → WereJudged mid new (finding ∷ [])
    → next ≡ status_of (answers_of so_far.findings ++ finding.answer ∷ []) → IsReportUpTo old new style (text ++ finding_text style finding) next
report_more old mid new style finding text code next so_far one worse = record {
  findings = so_far.findings ++ finding ∷ [];
  judged = judged_then old mid new so_far.findings (finding ∷ []) so_far.judged one;
  lines = ap (λ l. l ++ finding_text style finding) so_far.lines ∙ sym (text_more style so_far.findings finding);
  status = worse ∙ ap status_of (sym (map-append (λ (f : Finding). f.answer) so_far.findings (finding ∷ [])));
}

-- some claims were reported, and one more in part
pub report_in_part : (old mid new : Judging) (style : ReportStyle) (finding : Finding) (before between after : Option (List ℕ)) (code : ℕ)
    → (text : List ℕ) × IsReportUpTo old mid style text code × Appends before between text → WereJudged mid new (finding ∷ []) → AppendsPrefix between after (finding_text style finding)
    → (text : List ℕ) × IsReportPart old new style text × AppendsPrefix before after text
report_in_part old mid new style finding before between after code (text, so_far, sent) one part = (
  text ++ finding_text style finding,
  (_, report_more old mid new style finding text code _ so_far one refl),
  prefix_of_second before between after text (finding_text style finding) sent part,
)

-- some claims were reported, and then one more
pub report_whole : (old mid new : Judging) (style : ReportStyle) (finding : Finding) (before between after : Option (List ℕ)) (code next : ℕ)
    → (text : List ℕ) × IsReportUpTo old mid style text code × Appends before between text → WereJudged mid new (finding ∷ [])
    → ((answers : List Answer) → code ≡ status_of answers → next ≡ status_of (answers ++ finding.answer ∷ [])) → Appends between after (finding_text style finding)
    → (text : List ℕ) × IsReportUpTo old new style text next × Appends before after text
report_whole old mid new style finding before between after code next (text, so_far, sent) one worse more = (
  text ++ finding_text style finding,
  report_more old mid new style finding text code next so_far one (worse (answers_of so_far.findings) so_far.status),
  sent_both before between after text (finding_text style finding) sent more,
)

-- where none is left, the findings are on all claims
all_judged : (old new : Judging) (findings : List Finding) → WereJudged old new findings → NoneLeft new → AreFindings old findings
all_judged old new findings judged none = record {
  answers = subst (λ cs. AreTrueAnswers old.files old.rules cs (answers_of findings)) (sym (judged.claims ∙ ap (λ l. judged.judged ++ l) none.claims ∙ append-nil judged.judged)) judged.holds.answers;
  within = subst (λ cs. AreWithinWork old.files old.rules old.work cs (answers_of findings)) (sym (judged.claims ∙ ap (λ l. judged.judged ++ l) none.claims ∙ append-nil judged.judged)) judged.holds.within;
  notes = subst (λ ps. AreTrueNotes old.files old.rules ps findings) (sym (judged.patterns ∙ ap (λ l. judged.theirs ++ l) none.patterns ∙ append-nil judged.theirs)) judged.holds.notes;
  given = judged.holds.given;
}

-- the claims that were judged are the first ones
pub report_on_first : (old new : Judging) (style : ReportStyle) (text : List ℕ) → IsReportPart old new style text → IsReportOnFirst old style text
report_on_first old new style text (code, report) =
    let findings = report.findings in
    let judged = report.judged in
    let answers : length findings ≡ length judged.judged = sym (length-map findings (λ (f : Finding). f.answer)) ∙ AllZip-long (IsTrueAnswer old.files old.rules) judged.judged (answers_of findings) judged.holds.answers in
    let notes : length findings ≡ length judged.theirs = AllZip-long (λ its (f : Finding). IsNote old.files old.rules its f.answer.verdict f.note) judged.theirs findings judged.holds.notes in
    record {
      count = length findings;
      code = code;
      report = record {
        findings = findings;
        holds = record {
          answers = subst (λ cs. AreTrueAnswers old.files old.rules cs (answers_of findings)) (sym (ap (take (length findings)) judged.claims ∙ front judged.judged new.claims (length findings) answers)) judged.holds.answers;
          within = subst (λ cs. AreWithinWork old.files old.rules old.work cs (answers_of findings)) (sym (ap (take (length findings)) judged.claims ∙ front judged.judged new.claims (length findings) answers)) judged.holds.within;
          notes = subst (λ ps. AreTrueNotes old.files old.rules ps findings) (sym (ap (take (length findings)) judged.patterns ∙ front judged.theirs new.patterns (length findings) notes)) judged.holds.notes;
          given = judged.holds.given;
        };
        lines = report.lines;
        status = report.status;
      };
    }

-- with nothing before and nothing explained, what is printed is the lines of the answers
plain_text : (style : ReportStyle) (findings : List Finding) → style.before.now ≡ [] → style.explained ≡ false → findings_text style findings ≡ answer_lines (answers_of findings)
plain_text style [] none off = refl
plain_text style (finding ∷ findings) none off =
    ap (λ l. l ++ findings_text style findings)
    (ap (λ b. (b ++ answer_line finding.answer) ++ (second_line style finding ++ last_line style finding)) none
    ∙ ap (λ e. answer_line finding.answer ++ ((if e then note_text style.before.now style.faulty.now style.missing.now finding.answer.verdict finding.note else [])
    ++ (if e then verdict_remedy_line style.before.now style.faulty.now style.files.now finding.answer.verdict finding.note else []))) off
    ∙ append-nil (answer_line finding.answer))
    ∙ ap (λ l. answer_line finding.answer ++ l) (plain_text style findings none off)

-- so the report is a plain one
pub plain_report : (judging : Judging) (style : ReportStyle) (text : List ℕ) (code : ℕ) → style.before.now ≡ [] → style.explained ≡ false → IsReport judging style text code → IsPlainReport judging text code
plain_report judging style text code none off report =
    record { answers = answers_of report.findings; holds = report.holds.answers; within = report.holds.within; lines = report.lines ∙ plain_text style report.findings none off; status = report.status }

-- and where the other claims were judged too, a part of it is one of a plain report on all
pub plain_part : (old mid new : Judging) (style : ReportStyle) (before after : Option (List ℕ)) → style.before.now ≡ [] → style.explained ≡ false → WereAllJudged mid new
    → (text : List ℕ) × IsReportPart old mid style text × AppendsPrefix before after text → (text : List ℕ) × ((code : ℕ) × IsPlainReport old text code) × AppendsPrefix before after text
plain_part old mid new style before after none off (others, later, left) (text, (code, report), sent) =
    let findings = report.findings ++ others in
    let all = all_judged old new findings (judged_then old mid new report.findings others report.judged later) left in
    let lines : findings_text style report.findings ++ findings_text style others ≡ answer_lines (answers_of findings) = sym (flat_map-append (finding_text style) report.findings others) ∙ plain_text style findings none off in
    let more = prefix_of_first before after (findings_text style report.findings) (findings_text style others) (subst (AppendsPrefix before after) report.lines sent) in
    (answer_lines (answers_of findings), (_, record { answers = answers_of findings; holds = all.answers; within = all.within; lines = refl; status = refl }), subst (AppendsPrefix before after) lines more)
