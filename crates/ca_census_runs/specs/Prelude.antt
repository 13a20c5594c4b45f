-- The names of this crate's definitions that other crates and proofs cite, passed on from one place. It declares nothing.
pub use Rattle.ca_census_runs.specs.Objects.{kind_words, size_words, label_of, code_or_label, label, place_words, code_words, object_line}
pub use Rattle.ca_census_runs.specs.Counts.{some_objects, IsTally, count_cmp, comes_before, AreCounts, count_line}
pub use Rattle.ca_census_runs.specs.Places.{corner_cmp, stands_before, ArePlaced, IsPlacedCensus}
pub use Rattle.ca_census_runs.specs.Lines.{all_cells, objects_words, settled_line, unsettled_line, AreObjectLines, AreCensusLines}
pub use Rattle.ca_census_runs.specs.Runs.{IsContentCensus, IsCensusOutcome, FileTold, TellsRefusal, TellsOutcome, TellsFile, TellFiles, RunTold, IsCensusText, WritesCensus, EndsBefore, EndsWithin, IsUnfiled, HasFiles, EndsAt, EndsCensus}
pub use Rattle.ca_census_runs.specs.Files.{IsUnnameable, ArePlacedFiles, AreFilesIfAsked, HasNoFilesOf}
