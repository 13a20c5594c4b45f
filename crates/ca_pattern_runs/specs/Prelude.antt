-- The names of this crate's definitions that other crates and proofs cite, passed on from one place. It declares nothing.
pub use Rattle.ca_pattern_runs.specs.Captions.{caption_text}
pub use Rattle.ca_pattern_runs.specs.Details.{HasRunDetail}
pub use Rattle.ca_pattern_runs.specs.Drawn.{IsPictureOf, IsCaptionOf, HasNoWindow, IsDrawnAfter, IsCaptionAfter, HoldsOfLater}
pub use Rattle.ca_pattern_runs.specs.Runs.{IsTextFault, IsFormFaultAfter, reported, AreKnownTables, HoldsOfTables, HoldsOfReadFile, IsRuleFileFault, TellsTable, TellsConvert, TellsPattern, IsBytesFault, IsRunFault, WritesUnder, RunsOver, IsShownAfter, IsFormAfter, IsShown, IsFormOf, IsFormFault}
