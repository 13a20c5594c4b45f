-- The names of this crate's definitions that other crates and proofs cite, passed on from one place. It declares nothing.
pub use Rattle.ca_pattern.specs.Converted.{IsConvertFault, IsConverted, IsSummaryFault, IsSameSummary, IsSummary}
pub use Rattle.ca_pattern.specs.Evolved.{run_work, HoldsSmallRuledPattern, IsPatternAfter, IsReachFault, MayNeedRun, IsEvolved, IsSummaryAfter, IsConvertedAfter, IsConvertFaultAfter, IsSamePattern}
pub use Rattle.ca_pattern.specs.FaultTexts.{rule_fault_text, table_fault_text, table_line, table_text}
pub use Rattle.ca_pattern.specs.Formats.{IsPatternFault, IsPatternFaultOn, pattern_fault_text, IsUnreadFile, format_of, MeansAs, IsReadableAs, IsTidyAs, MayWantMemoryAs, format_name}
pub use Rattle.ca_pattern.specs.LaterTrees.{IsStart, IsLaterTree, IsWithinPlane}
pub use Rattle.ca_pattern.specs.Limited.{AreGoodLimits}
pub use Rattle.ca_pattern.specs.LocatedFaults.{IsOpeningFault, convert_fault_of, IsSameFault}
pub use Rattle.ca_pattern.specs.Means.{IsReadable, HoldsRuleText, HoldsRuledPattern, HasRuleFault, MayWantMemory, HoldsPattern, Means}
pub use Rattle.ca_pattern.specs.NamedTables.{IsQuietTable, IsTableFault}
pub use Rattle.ca_pattern.specs.PatternCells.{IsTreeOf, IsPatternOf, AreCells, IsGenerationOf}
pub use Rattle.ca_pattern.specs.PatternTrees.{ShowsTree, IsPattern, IsRun, IsBroad, IsWide, IsNearTree, HasLive, IsEndTree, IsMoved, IsMove, IsNoMove, IsOnlyMove, IsLowTree, IsWideBox}
pub use Rattle.ca_pattern.specs.Patterns.{IsReadFrom, rule_of, ShowsSmall, IsUnreadFor, IsUnnamedFor, IsRuledAs, ShowsLarge, IsUnread}
pub use Rattle.ca_pattern.specs.States.{HasSmallStates, HasLargeState}
pub use Rattle.ca_pattern.specs.Written.{IsSummaryOf, IsWrittenAs, AreUnwritten, IsTidyTextOf, HasCellOutOfRange}
