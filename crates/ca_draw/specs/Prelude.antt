-- The names of this crate's definitions that other crates and proofs cite, passed on from one place. It declares nothing.
pub use Rattle.ca_draw.specs.Windows.{IsWindow, strip_of, IsInSquare, IsInWindow, IsBox, IsTreeBox, ShowsBox}
pub use Rattle.ca_draw.specs.Marks.{IsBlankSquare, has_live, IsLiveSquare, live_mark, state_mark, mark_of, state_grey, mark_letter, mark_grey}
pub use Rattle.ca_draw.specs.Drawings.{texts_below, repeated, byte_of_mark, row_end, drawing_row, drawing, drawing_front}
pub use Rattle.ca_draw.specs.Views.{IsWindowFrom, size_of, IsNoWindowFrom, IsBoxShown, box_shown, ShowsWhole, HasScale, IsWindowFor, IsNoWindowFor}
