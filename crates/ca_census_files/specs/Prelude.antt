-- The names of this crate's definitions that other crates and proofs cite, passed on from one place. It declares nothing.
pub use Rattle.ca_census_files.specs.Names.{object_name, settled_name, rle_file, claims_file}
pub use Rattle.ca_census_files.specs.Folders.{NamedBytes, named_bytes, HaveOwnNames, AddsFiles}
pub use Rattle.ca_census_files.specs.Files.{IsPatternFile, AreObjectFiles, AreCensusFiles, HasNoFiles}
pub use Rattle.ca_census_files.specs.Files.{pattern_load_line, becomes_line, becomes_lines, object_claim_lines, all_object_claims, files_text}
pub use Rattle.ca_census_files.specs.FilesSay.{load_says, becomes_says, object_says, all_objects_say, files_say, FilesSayTheirClaims}
