-- The names of this crate's definitions that other crates and proofs cite, passed on from one place. It declares nothing.
pub use Rattle.ca_census.specs.Settlings.{IsSettled, IsSettling}
pub use Rattle.ca_census.specs.Censuses.{IsCodeIfAsked, IsEntryOf, IsCensusOf}
pub use Rattle.ca_census.specs.Files.{IsCensusUnder, IsOrigin, IsCensusAt, FitsFile, IsFileable, IsUncountedFor}
