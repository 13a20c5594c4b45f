-- The names of this crate's definitions that other crates and proofs cite, passed on from one place. It declares nothing.
pub use Rattle.ca_plane.specs.Plane.{Picture, cell, IsLive, shifted, IsSame, IsPicture}
pub use Rattle.ca_plane.specs.Generations.{after, IsAfter, around, cells_after, IsLiveAfter}
pub use Rattle.ca_plane.specs.Moore.{moore_next, eight_sum, IsMoore}
pub use Rattle.ca_plane.specs.Counting.{counting_next, counted_sum, GoesByCounting}
pub use Rattle.ca_plane.specs.Ageing.{liveness, aged, GoesByAgeing, older}
pub use Rattle.ca_plane.specs.Change.{Sets, DifferAt}
pub use Rattle.ca_plane.specs.Sparse.{IsInPlane, IsSparse, point_cmp}
pub use Rattle.ca_plane.specs.Bytes.{letter, Every, IsWord, lines_of, is_word_byte, is_line_end, is_blank, words_of, IsInteger, is_end_or, with_front, front, is_digit, AreDigits, rest, nearest_i64, trimmed, text_of, without_last_blanks, value, nearest_u64, value_from, without_cr}
pub use Rattle.ca_plane.specs.Device.{Counted, Rises, AppendsPrefix}
pub use Rattle.ca_plane.specs.Box.{IsLeastBox, IsWithin, IsInBox, moved, LeavesPlane}
pub use Rattle.ca_plane.specs.BitPlane.{state_from_corner, bit_cell, AddsRun, word_state, state_of_words, AreNearWords, IsNearWord}
pub use Rattle.ca_plane.specs.Shown.{from_corner, row_cells, word_cells, ShowsPlane}
pub use Rattle.ca_plane.specs.Limits.{longest_period, most_generations, generation_limit, reach, range, IsInRange, default_rule, most_cells, most_memo, longest_count, greatest_shift}
pub use Rattle.ca_plane.specs.Population.{HasFewCells, HasTooManyCells, HasPopulation, AreLivePlaces}
pub use Rattle.ca_plane.specs.Puts.{Puts}
