-- The names of this crate's definitions that other crates and proofs cite, passed on from one place. It declares nothing.
pub use Rattle.ca_run.specs.Centre.{IsCentre, IsLeap, centre}
pub use Rattle.ca_run.specs.Leaping.{LeaperGrows, LeaperView, Costs}
pub use Rattle.ca_run.specs.Advanced.{IsAdvanced, CanAdvance, GivesUpAt}
pub use Rattle.ca_run.specs.Memo.{LeapResult, FullLeap, Centre, LeapOfFour, IsTrueResult}
