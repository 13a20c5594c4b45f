-- The names of this crate's definitions that other crates and proofs cite, passed on from one place. It declares nothing.
pub use Rattle.ca_report.specs.Counts.{generations_word, side_length}
pub use Rattle.ca_report.specs.Escaped.{escaped, spelled_byte, is_control, is_control_pair, escaped_byte}
pub use Rattle.ca_report.specs.FileLines.{at_line, rule_file_line, pattern_line, missing_at, missing_words, file_line, rule_words}
pub use Rattle.ca_report.specs.Outside.{has_later_parent}
pub use Rattle.ca_report.specs.Pieces.{pieces_text, piece_text}
pub use Rattle.ca_report.specs.Reading.{ReadsAll, TakesFile, GivesTooMany, GivesSome, max_file}
pub use Rattle.ca_report.specs.Remedies.{cause_remedy, bytes_of, remedy_line, file_at, run_remedy, begins, file_word}
pub use Rattle.ca_report.specs.RulePaths.{has_two_dots}
pub use Rattle.ca_report.specs.Writing.{Sends, WritesOneOf}
