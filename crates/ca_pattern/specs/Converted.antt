-- What a pattern file is converted to, what is reported of it, and why it is refused.
use Rattle.std.specs.Prelude.{◌≡◌, ℕ, List}
use Rattle.ca_plane.specs.Prelude.{Picture, cell, HasTooManyCells}
use Rattle.ca_rule.specs.Prelude.{TableRule, RuleValue}
use Rattle.ca_pattern.specs.declared.{format.Format.Format, convert_fault.ConvertFault.ConvertFault, pattern.Summary.Summary}
use Rattle.ca_pattern.specs.declared.format.Format.TheVariants.{Rle}
use Rattle.ca_pattern.specs.declared.convert_fault.ConvertFault.TheVariants.{BadPattern, BadRule, StateTooLarge, TooManyCells, Memory}
use Rattle.ca_pattern.specs.{Evolved.IsConvertedAfter, Evolved.IsSummaryAfter, Means.HoldsRuledPattern, Means.HasRuleFault, Means.MayWantMemory}
use Rattle.ca_pattern.specs.{Formats.IsPatternFault, States.HasLargeState, States.HasSmallStates}

-- the text is what the bytes are converted to: what their pattern is written as, after no generations
abbrev pub IsConverted : List ℕ → List TableRule → Format → List ℕ → Type 0
IsConverted bytes tables target text = IsConvertedAfter bytes tables 0 target text

-- the summary is that of the bytes: that of their pattern, after no generations
abbrev pub IsSummary : List ℕ → List TableRule → Summary → Type 0
IsSummary bytes tables summary = IsSummaryAfter bytes tables 0 summary

-- two summaries say the same
pub record IsSameSummary (one two : Summary) : Type 0 where
  pub kind : one.kind ≡ two.kind
  pub rule_text : one.rule_text.items ≡ two.rule_text.items
  pub generation : one.generation ≡ two.generation
  pub cells : one.cells ≡ two.cells
  pub bounds : one.bounds ≡ two.bounds

-- the first reason for which there is no summary: the bytes aren't read, or their rule text names no rule, or a state is too large.
-- Out of memory may come before any of them, where memory may run out for the bytes
abbrev pub IsSummaryFault : List ℕ → List TableRule → ConvertFault → Type 0
IsSummaryFault bytes tables (BadPattern fault) = IsPatternFault bytes fault
IsSummaryFault bytes tables (BadRule fault) = HasRuleFault bytes tables fault
IsSummaryFault bytes tables StateTooLarge = (cells : Picture) × (rule : RuleValue) × (generation : ℕ)
    × HoldsRuledPattern bytes tables cells rule generation × HasLargeState rule (cell cells)
IsSummaryFault bytes tables TooManyCells = ⊥
IsSummaryFault bytes tables Memory = MayWantMemory bytes

-- the first reason for which the bytes aren't converted: one of those, or more live cells than an RLE may have
abbrev pub IsConvertFault : List ℕ → List TableRule → Format → ConvertFault → Type 0
IsConvertFault bytes tables target TooManyCells = (target ≡ Rle) × (cells : Picture) × (rule : RuleValue) × (generation : ℕ)
    × HoldsRuledPattern bytes tables cells rule generation × HasSmallStates rule (cell cells) × HasTooManyCells (cell cells)
IsConvertFault bytes tables target fault = IsSummaryFault bytes tables fault
