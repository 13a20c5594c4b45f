-- The names of this crate's definitions that other crates and proofs cite, passed on from one place. It declares nothing.
pub use Rattle.ca_import.specs.CellLines.{is_live_byte, is_at, east, is_live_in_row, CellLine, Nothing, LiveCell, Row, Corner, Rule, is_live_in_line, is_live_in, next_row, live_count, IsRowInRange, IsLineInRange, row_after, next_rule, last_said_rule, said_count, HasPlace, south}
pub use Rattle.ca_import.specs.Rows.{is_star_cell, IsRow, is_letter_cell}
pub use Rattle.ca_import.specs.Life106.{is_remark, Life106WordsSay}
pub use Rattle.ca_import.specs.Life105.{corner_numbers, Life105WordsSay, Life105Says, is_description, NameRuleText}
pub use Rattle.ca_import.specs.Plaintext.{PlaintextSays}
pub use Rattle.ca_import.specs.Apgcode.{after_mark, after_number, after_head}
pub use Rattle.ca_import.specs.Import.{first_row, LinesSay, LinesHold, HoldsIn, IsImport, import_format, LineSays, IsGoodLine, IsLineFault, HasFaultOn, word_alone, representation_text, line_format, format_of, CodeHolds, HasFaultyLine, IsCodeFault, HasFaultyCode, HasFaultIn, IsImportFaultOn}
pub use Rattle.ca_import.specs.Laws.{NameSameRule}
