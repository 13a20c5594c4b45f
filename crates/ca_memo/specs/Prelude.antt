-- The names of this crate's definitions that other crates and proofs cite, passed on from one place. It declares nothing.
pub use Rattle.ca_memo.specs.Pages.{HasPageKey, ArePagesKept, HasSlot, HasFullLeapIn, HasSingleIn, HasSingle, MemoView, HasFullLeap, RemembersNoMore, IsBoundedMemo}
pub use Rattle.ca_memo.specs.SlotResults.{SlotsView, HasRecent}
