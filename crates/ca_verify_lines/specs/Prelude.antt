-- The names of this crate's definitions that other crates and proofs cite, passed on from one place. It declares nothing.
pub use Rattle.ca_verify_lines.specs.Reports.{answers_of, AreTrueNotes, AreFindings, IsPlainReport, IsReport, IsReportOnFirst, WritesPlainReport, WritesReport, with_claims, all_claims, NeedsMemory}
pub use Rattle.ca_verify_lines.specs.Verdicts.{answer_line, answer_lines, note_text, second_line, verdict_remedy_line, last_line, finding_text, findings_text, status_of, is_refusal, is_no, faulty_named}
