-- What is reported and written of a pattern's cells, and why they aren't written.
use Rattle.std.specs.Prelude.{◌≡◌, ◌≢◌, ℕ, ℤ, List, MatchOption}
use Rattle.ca_plane.specs.Prelude.{Picture, IsLive, cell, IsLeastBox, IsInRange, HasPopulation, HasTooManyCells}
use Rattle.ca_plane.specs.Plane as plane
use Rattle.ca_macro.specs.Prelude.{AreInRange}
use Rattle.ca_rule.specs.Prelude.{RuleValue, states_of, printed_form}
use Rattle.ca_pattern.specs.declared.{format.Format.Format, located_fault.LocatedFault.LocatedFault, pattern.Summary.Summary}
use Rattle.ca_pattern.specs.declared.format.Format.TheVariants.{Rle}
use Rattle.ca_pattern.specs.declared.located_fault.LocatedFault.TheVariants.{Range, TooManyCells, Memory}
use Rattle.ca_pattern.specs.{Formats.format_of, Formats.IsTidyAs, Means.HoldsPattern}

-- the summary is that of a file of this format, with these cells, this rule and this generation
pub record IsSummaryOf (kind : Format) (cells : ℤ → ℤ → ℕ) (rule : RuleValue) (generation : ℕ) (summary : Summary) : Type 0 where
  pub kind_is : summary.kind ≡ kind
  pub printed : summary.rule_text.items ≡ printed_form rule
  pub generation_is : summary.generation ≡ generation
  pub population : HasPopulation cells summary.cells
  pub bounds : (picture : Picture) → ((x y : ℤ) → cells x y ≡ plane.cell picture x y) → MatchOption summary.bounds (IsLive picture → ⊥) (IsLeastBox picture)

-- the text is the tidy one of a format with these cells, this rule text of a rule with `states` states, and the
-- generation
pub record IsTidyTextOf (target : Format) (cells : ℤ → ℤ → ℕ) (rule_text : List ℕ) (generation states : ℕ) (text : List ℕ) : Type 0 where
  pub shown : Picture
  pub same : (x y : ℤ) → cells x y ≡ plane.cell shown x y
  pub format : format_of text ≡ target
  pub holds : HoldsPattern text shown rule_text generation
  pub tidy : IsTidyAs target text shown rule_text generation states

-- with the printed form of the rule
abbrev pub IsWrittenAs : Format → (ℤ → ℤ → ℕ) → RuleValue → (generation : ℕ) → List ℕ → Type 0
IsWrittenAs target cells rule generation text = IsTidyTextOf target cells (printed_form rule) generation (states_of rule) text

-- some live cell lies outside the range of a file
abbrev pub HasCellOutOfRange : (ℤ → ℤ → ℕ) → Type 0
HasCellOutOfRange cells = (x : ℤ) × (y : ℤ) × (cells x y ≢ 0) × (IsInRange (record { y = y; x = x }) → ⊥)

-- why cells aren't written in a format: a live cell is out of range; or too many are live for an RLE; or memory is out
abbrev pub AreUnwritten : Format → (ℤ → ℤ → ℕ) → LocatedFault → Type 0
AreUnwritten target cells Range = HasCellOutOfRange cells
AreUnwritten target cells TooManyCells = (target ≡ Rle) × AreInRange cells × HasTooManyCells cells
AreUnwritten target cells Memory = Unit {0}
AreUnwritten target cells fault = ⊥
