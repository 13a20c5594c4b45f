-- The names of this crate's definitions that other crates and proofs cite, passed on from one place. It declares nothing.
pub use Rattle.ca_text.specs.Words.{with_word}
pub use Rattle.ca_text.specs.Text.{Claim, ClaimTextLine, Version, Rule, Load, Claims, is_second, path_of, ClaimLinesSay, is_skipped, ClaimWordsSay, IsAllowedLine, said_lines, IsClaimText, ClaimText, map_patterns, by_path, named_patterns, rule_paths, file_paths, claims_from, AreLoaded, paths_once, with_rule_line, IsKindAfter}
pub use Rattle.ca_text.specs.TextFaults.{HasClaimLine, AreMisspelledClaimWords, HaveBadNumber, AskUnknown, LoadTaken, NeedMemory, IsFirstClaimFault}
pub use Rattle.ca_text.specs.Kinds.{asks_of, HasGoodNumbers, keyword_of, words_after_name, spaced, IsShift, is_of_second_version, FollowName, WordsClaim}
pub use Rattle.ca_text.specs.Both.{HoldsOfBoth, HoldsOfEither, FirstBadOfBoth, map_both, twice, ZipBoth}
pub use Rattle.ca_text.specs.SomeOf.{SomeOf}
pub use Rattle.ca_text.specs.Places.{path_at, claim_with_paths, named_at, claim_with_names, named_path, IsNamed}
pub use Rattle.ca_text.specs.NeededFiles.{IsNeeded}
pub use Rattle.ca_text.specs.Examples.{of_one, still_of, becomes_of}
pub use Rattle.ca_text.specs.Truth.{expected_cells, IsTrueClaim, MayReturnBy, ShowsNothingForbidden, claimed_cells, IsChanged, IsNowhere}
pub use Rattle.ca_text.specs.Firsts.{FirstBad}
