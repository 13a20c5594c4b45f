-- The names of this crate's definitions that other crates and proofs cite, passed on from one place. It declares nothing.
pub use Rattle.ca_rle.specs.Items.{Run, IsEnd, Items, InLine, is_letter, is_prefix, prefixed_state, tag_of, IsItem, IsWhite, IsCount, Place, AtStart, InComment, is_white_from}
pub use Rattle.ca_rle.specs.Shown.{picture_of_items, run_of, ends_row, tag_state, greatest_state, row_count, columns_of, place_after, item_cells, picture_after}
pub use Rattle.ca_rle.specs.Header.{extended_words, CxrleWord, Corner, Generation, Nothing, WordSays, size_parts, rule_parts, is_front_line, IsHeader, Part, Exactly, Number, IsHeaderPart, IsSpaced, IsXlifeLine, words_after_cxrle}
pub use Rattle.ca_rle.specs.File.{RleFile, IsRleFile, IsLine, line_with_lf, IsPreamble, FollowsPreamble, IsHeaded, corner_of, last_word_generation, generation_of, last_corner}
pub use Rattle.ca_rle.specs.Limits.{IsWithinLimits, IsRleWithinRange, IsRleOutOfRange, HasTooManyRleCells}
pub use Rattle.ca_rle.specs.Faults.{IsFirstRleFault, IsBadWord, HasBadWord, item_fault, HasNoHeader, HasBadItem, after_white, IsRleFault, letter_fault, tag_fault, count_fault, HasBadWordAmong, HasXlifeRule}
pub use Rattle.ca_rle.specs.FaultyLine.{IsFirstRleFaultOn, IsRleFaultOn, HasBadItemAt, IsFirstFaultAt, HasBadWordAt, IsFaultyRleLine, line_number_of, HasNoHeaderAt}
pub use Rattle.ca_rle.specs.Pattern.{HasFileParts, IsWritableRle, IsWrittenRle, packed_cell, IsReadableRle}
pub use Rattle.ca_rle.specs.Judged.{IsRleText}
pub use Rattle.ca_rle.specs.Tidy.{IsFrame, AreTidy, count_text, AreLines, item_text, IsFull, corner_line, header_line, IsTidyRle, HaveStates, letters_of, tag_text, generation_text}
