-- The names of this crate's definitions that other crates and proofs cite, passed on from one place. It declares nothing.
pub use Rattle.ca_answers.specs.Answers.{cause_text, AreTables, HoldsOfFile, AreWithinWork, IsWithinWork, AreTrueAnswers, IsTrueAnswer, IsRuled, IsMissing, IsThere, HoldsTable, HasRule, IsSmall, HaveOtherRules, FilesAreThere, AgreeOn, HasCause, IsGoodPattern, AreGood, IsJudged, IsBadTable, IsUnnamed, IsLarge, IsTrueVerdict, IsBadPatternOn, IsReadableFile, IsBadPattern, IsUnnamedBy, IsCrowded, WantsMemory, IsTableAt, TablesAreGood, PatternsAreRead, PatternsHaveRules, StatesAreSmall, HasFewCounted, HasTooManyCounted, IsCauseFor, IsCounted, IsOfClaim, IsOfPattern, IsOfRuleFile}
pub use Rattle.ca_answers.specs.Codes.{IsCodeOf, IsCodeOfFile, IsUncodedAfter, HasCodes, HasNoCode, HasGoodPeriod, IsNoObject, MayNeedWorkTwice, steps_of}
pub use Rattle.ca_answers.specs.Files.{SuppliedFiles, bytes_at, contents}
pub use Rattle.ca_answers.specs.Identified.{IsIdentity, IsLookAt, IsUnidentifiedAfter, IsLook, IsTrueWithin, MayNeedWorkAfter, HasNoTrueClaim, MayNeedWork, AreOfNoOther, IsGrowth, IsIdentityAfter, IsIdentifiedAfter, IsLookAfter}
pub use Rattle.ca_answers.specs.Judging.{Judging, JudgesAndNotes, IsDone, Judges}
pub use Rattle.ca_answers.specs.Notes.{IsNote, HasItsNote}
pub use Rattle.ca_answers.specs.Refutations.{IsReason, IsSameReason}
pub use Rattle.ca_answers.specs.Work.{IsNoMoreThan, most_runs, MayBeUsedUp}
