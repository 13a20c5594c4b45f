-- Patterns after some generations: what is reached, what is reported and written of it, and why it isn't.
use Rattle.std.specs.Prelude.{◌≡◌, ℕ, zero, suc, ◌+◌, ◌^◌, ◌<◌, ◌≤◌, ℤ, List, MatchOption}
use Rattle.ca_plane.specs.Prelude.{Picture, cell, IsLive, IsLeastBox, after, IsAfter, generation_limit, HasPopulation, HasTooManyCells}
use Rattle.ca_quad.specs.Prelude.{HoldsAll}
use Rattle.ca_macro.specs.Prelude.{AreInRange}
use Rattle.ca_rule.specs.Prelude.{TableRule, RuleValue, rule_value, states_of, next_of, printed_form}
use Rattle.ca_pattern.specs.declared.{format.Format.Format, pattern.Summary.Summary, pattern.Pattern.Pattern, located_fault.LocatedFault.LocatedFault}
use Rattle.ca_pattern.specs.declared.format.Format.TheVariants.{Rle}
use Rattle.ca_pattern.specs.declared.located_fault.LocatedFault.TheVariants.{GenTooLarge, Work, Range, TooManyCells}
use Rattle.ca_pattern.specs.{Formats.format_of, Formats.IsTidyAs, Means.HoldsPattern, Means.HoldsRuledPattern, States.HasSmallStates}
use Rattle.ca_pattern.specs.{LocatedFaults.IsOpeningFault, PatternCells.AreCells, PatternCells.IsPatternOf, Written.HasCellOutOfRange}

-- the bytes are a file whose pattern has these cells, of small states, under the rule that its rule text names, at this generation
pub record HoldsSmallRuledPattern (bytes : List ℕ) (tables : List TableRule) (cells : Picture) (rule : RuleValue) (generation : ℕ) : Type 0 where
  pub holds : HoldsRuledPattern bytes tables cells rule generation
  pub small : HasSmallStates rule (cell cells)

-- there is at least one generation to run, and the work is no more than a run of n of them from these cells may need: 14 to the power of a level that
-- holds them, the binary digits of n, and 2
abbrev pub MayNeedRun : (work n : ℕ) → (ℤ → ℤ → ℕ) → Type 0
MayNeedRun work n cells = (1 ≤ n) × ((level digits : ℕ) → 1 ≤ level → HoldsAll level cells → n < 2 ^ digits → work ≤ 14 ^ (level + digits + 2))

-- what a run of n generations may need: nothing where n is 0, and else 14 to the power of a level that holds the first cells, the binary digits of n, and 2
abbrev pub run_work : (n level digits : ℕ) → ℕ
run_work zero level digits = 0
run_work (suc n) level digits = 14 ^ (level + digits + 2)

-- the first reason for which the plane after n generations isn't reached, where `work` units of work may be done: the
-- file isn't opened; or the generation would be too large; or work is out. Out of memory may come before any of them,
-- where memory may run out for the bytes
abbrev pub IsReachFault : List ℕ → List TableRule → (n work : ℕ) → LocatedFault → Type 0
IsReachFault bytes tables n work GenTooLarge = (cells : Picture) × (rule : RuleValue) × (generation : ℕ)
    × HoldsSmallRuledPattern bytes tables cells rule generation × (generation_limit ≤ generation + n)
IsReachFault bytes tables n work Work = (cells : Picture) × (rule : RuleValue) × (generation : ℕ)
    × HoldsSmallRuledPattern bytes tables cells rule generation × (generation + n < generation_limit) × MayNeedRun work n (cell cells)
IsReachFault bytes tables n work fault = IsOpeningFault bytes tables fault

-- n generations after the file's pattern, under its rule, the plane has these cells, at this generation, which is below
-- the limit
pub record IsEvolved (bytes : List ℕ) (tables : List TableRule) (n : ℕ) (later : Picture) (rule : RuleValue) (generation : ℕ) : Type 0 where
  pub cells : Picture
  pub begun : ℕ
  pub begins : HoldsSmallRuledPattern bytes tables cells rule begun
  pub stands : IsAfter (next_of rule) cells n later
  pub added : generation ≡ begun + n
  pub low : generation < generation_limit

-- the pattern is that of the file after n generations: it has the cells that the plane has then, at every x and y, of
-- small states; its rule is the file's, and n is added to the file's generation
pub record IsPatternAfter (bytes : List ℕ) (tables : List TableRule) (n : ℕ) (pattern : Pattern) : Type 0 where
  pub cells : Picture
  pub begun : ℕ
  pub begins : HoldsSmallRuledPattern bytes tables cells (rule_value pattern.rule) begun
  pub kind : pattern.kind ≡ format_of bytes
  pub added : pattern.generation ≡ begun + n
  pub is_pattern : IsPatternOf (after (next_of (rule_value pattern.rule)) cells n) pattern

-- the summary is that of the plane after n generations: the format of the bytes, the printed form of their rule, their
-- generation and n, the number of live cells, and the smallest box round them
pub record IsSummaryAfter (bytes : List ℕ) (tables : List TableRule) (n : ℕ) (summary : Summary) : Type 0 where
  pub later : Picture
  pub rule : RuleValue
  pub evolved : IsEvolved bytes tables n later rule summary.generation
  pub kind : summary.kind ≡ format_of bytes
  pub printed : summary.rule_text.items ≡ printed_form rule
  pub population : HasPopulation (cell later) summary.cells
  pub bounds : MatchOption summary.bounds (IsLive later → ⊥) (IsLeastBox later)

-- the text is what the plane after n generations is written as: it is the tidy text of the target's format, of the same
-- cells at every x and y, with the printed form of the rule, and of the file's generation and n; and its reader takes
-- it
pub record IsConvertedAfter (bytes : List ℕ) (tables : List TableRule) (n : ℕ) (target : Format) (text : List ℕ) : Type 0 where
  pub later : Picture
  pub rule : RuleValue
  pub generation : ℕ
  pub evolved : IsEvolved bytes tables n later rule generation
  pub format : format_of text ≡ target
  pub text_holds : HoldsPattern text later (printed_form rule) generation
  pub tidy : IsTidyAs target text later (printed_form rule) generation (states_of rule)

-- the first reason for which the plane after n generations isn't written: it isn't reached; or a live cell is out of
-- range then; or more cells are live than an RLE may have
abbrev pub IsConvertFaultAfter : List ℕ → List TableRule → (n work : ℕ) → Format → LocatedFault → Type 0
IsConvertFaultAfter bytes tables n work target TooManyCells = (target ≡ Rle) × (cells : Picture) × (rule : RuleValue) × (generation : ℕ)
    × HoldsSmallRuledPattern bytes tables cells rule generation × (generation + n < generation_limit)
    × AreInRange (after (next_of rule) cells n) × HasTooManyCells (after (next_of rule) cells n)
IsConvertFaultAfter bytes tables n work target Range = (cells : Picture) × (rule : RuleValue) × (generation : ℕ)
    × HoldsSmallRuledPattern bytes tables cells rule generation × (generation + n < generation_limit) × HasCellOutOfRange (after (next_of rule) cells n)
IsConvertFaultAfter bytes tables n work target fault = IsReachFault bytes tables n work fault

-- two patterns are the same: of one format, under one rule, of one generation, and of the same cells at every x and y
pub record IsSamePattern (one two : Pattern) : Type 0 where
  pub kind : one.kind ≡ two.kind
  pub rule : rule_value one.rule ≡ rule_value two.rule
  pub generation : one.generation ≡ two.generation
  pub cells : (f g : ℤ → ℤ → ℕ) → AreCells one.cells f → AreCells two.cells g → (x y : ℤ) → f x y ≡ g x y
