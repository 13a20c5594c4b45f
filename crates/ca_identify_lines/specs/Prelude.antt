-- The names of this crate's definitions that other crates and proofs cite, passed on from one place. It declares nothing.
pub use Rattle.ca_identify_lines.specs.Catalog.{cells_word, growth_text, none_text, later_text, later_head, later_line, found_line, code_line, code_lines, identified_lines, IsAskedCode, refused_line, load_line, claim_words, identity_line, entry_lines, outcome_lines, rule_lines, version_line, catalog_head, catalog_text, IsContentOutcome, IsEntry, AreEntries, entry_explanation, catalog_explanation, IsCatalog, WritesCatalog, EndsCatalog, IsWithin, IsUnfoundFor, IsOutcome, IsFoundIn, objects_word, comment_head, settles_line, settles_lines, SettlesInto, IsSettlesOf}
pub use Rattle.ca_identify_lines.specs.CatalogSays.{claim_line, identity_says, found_says, outcome_says, entry_says, AreRuleWords, SaysItsClaims}
pub use Rattle.ca_identify_lines.specs.FaultReports.{IsReportOf}
pub use Rattle.ca_identify_lines.specs.Names.{is_claim_path, is_taken, without_ending, is_word, name_byte, with_first_byte, last_component, claim_name, numbered_name, IsFreeName}
pub use Rattle.ca_identify_lines.specs.WrittenOn.{WritesOn, WritesPartOn, WritesOnFirst}
