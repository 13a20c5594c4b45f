-- Files that were opened, and what is reached, reported and written of their patterns.
use Rattle.std.proofs.Common.{◌≡◌, ℕ, ◌+◌, ◌<◌, List, Some, Result, Ok, Err, refl, sym, subst, ◌∙◌, arith}
use Rattle.std.specs.Prelude.{ℤ, IfOk}
use Rattle.ca_plane.specs.Prelude.{Picture, cell, after, generation_limit}
use Rattle.ca_quad.specs.declared.node.Node.{Node}
use Rattle.ca_quad.specs.Trees as trees
use Rattle.ca_macro.specs.Prelude.{AreInRange}
use Rattle.ca_macro.proofs.Ranges.{range_as}
use Rattle.ca_rle.specs.declared.rle_text.RleText.{RleText}
use Rattle.ca_rle.specs.Prelude.{IsRleText, picture_of_items}
use Rattle.ca_rule.specs.declared.rule.Rule.{Rule}
use Rattle.ca_rule.specs.Prelude.{TableRule, RuleValue, rule_value, states_of, next_of, NamesRule}
use Rattle.ca_pattern.specs.declared.{convert_fault.ConvertFault.ConvertFault, format.Format.Format, located_fault.LocatedFault.LocatedFault, pattern.Pattern.Pattern, pattern.StoredTree.StoredTree}
use Rattle.ca_pattern.specs.declared.{pattern.Summary.Summary, ruled.RuledPattern.RuledPattern}
use Rattle.ca_pattern.specs.declared.convert_fault.ConvertFault.TheVariants as convert
use Rattle.ca_pattern.specs.declared.format.Format.TheVariants.{Rle}
use Rattle.ca_pattern.specs.declared.located_fault.LocatedFault.TheVariants.{Unread, UnnamedRule, StateTooLarge, GenTooLarge, Work, Range, TooManyCells, Memory}
use Rattle.ca_pattern.specs.declared.pattern.Cells.TheVariants.{Text, Squares}
use Rattle.ca_pattern.specs.Prelude.{IsConvertFault, IsPatternAfter, IsEvolved, IsSummaryAfter, IsConvertedAfter, convert_fault_of, format_of, IsTreeOf, IsPatternOf, IsPattern}
use Rattle.ca_pattern.specs.Prelude.{IsReadFrom, rule_of, ShowsSmall, HasSmallStates, IsSummaryOf, IsWrittenAs, AreUnwritten}
use Rattle.ca_pattern.proofs.EqualCells.{small_shown, population_shown}
use Rattle.ca_pattern.proofs.FilesInRange.{file_in_range}
use Rattle.ca_pattern.proofs.LaterPlanes.{picture_of}
use Rattle.ca_pattern.proofs.OneRun.{in_range_or_out}
use Rattle.ca_pattern.proofs.OpenedCells.{text_cells, tree_of_cells}
use Rattle.ca_pattern.proofs.PatternsRead.{reads_may_want}
use Rattle.ca_pattern.proofs.RleFiles.{text_holds}
use Rattle.ca_pattern.proofs.ReadPatterns.{read_pattern, holds_ruled}

-- ---- as they are

-- an RLE file that was judged is its pattern
pub text_opened : (bytes : List ℕ) (text : RleText) (is : IsRleText bytes text) → format_of bytes ≡ Rle → (tables : List TableRule) (rule : Rule) → NamesRule is.file.rule_text tables (rule_value rule) → text.greatest < states_of (rule_value rule)
    → IsPatternAfter bytes tables 0 (record { cells = Text text; kind = Rle; rule = rule; generation = text.generation })
text_opened bytes text is rle tables rule names low =
    let cells = picture_of_items is.file.corner is.file.items in
    let small : HasSmallStates (rule_value rule) (cell cells) = λ x y. let most = is.most x y in omega (arith, most, low) in
    record {
      cells = cells;
      begun = text.generation;
      begins = record { holds = record { rule_text = is.file.rule_text; holds = text_holds bytes text is rle; names = names }; small = small };
      kind = sym rle;
      added = omega arith;
      is_pattern = record {
        are_cells = (bytes, is, text_cells bytes text is);
        small = small;
        generation_is = refl;
        low = subst (λ (n : ℕ). n < generation_limit) (sym is.generation) is.low_generation;
      };
    }

-- and so is the tree that was read of a file
pub squares_opened : (nodes : List Node) (bytes : List ℕ) (tables : List TableRule) (ruled : RuledPattern) → IsReadFrom nodes bytes ruled.pattern → NamesRule ruled.pattern.rule_text.items tables (rule_of ruled) → ShowsSmall nodes ruled
    → IsPatternAfter bytes tables 0 (record { cells = Squares (record { store = nodes; tree = ruled.pattern.tree }); kind = ruled.pattern.kind; rule = ruled.rule; generation = ruled.pattern.generation })
squares_opened nodes bytes tables ruled read names small =
    let is = read_pattern nodes bytes ruled.pattern read in
    let shown = small_shown (trees.cell nodes ruled.pattern.tree) (cell read.cells) read.loaded.shows (rule_of ruled) small in
    record {
      cells = read.cells;
      begun = ruled.pattern.generation;
      begins = record { holds = holds_ruled nodes bytes tables ruled read names; small = shown };
      kind = read.loaded.kind;
      added = omega arith;
      is_pattern = record {
        are_cells = tree_of_cells nodes ruled.pattern.tree (cell read.cells) is.is_tree is.trimmed read.loaded.shows (λ x y live. read.range x y (λ none. live (sym (read.loaded.shows x y) ∙ none)));
        small = shown;
        generation_is = tt;
        low = read.generation;
      };
    }

-- ---- after some generations

module _ (bytes : List ℕ) (tables : List TableRule) (first : Pattern) (is : IsPatternAfter bytes tables 0 first) where
  pub first_in_range : AreInRange (cell is.cells)
  first_in_range = file_in_range bytes is.cells is.begins.holds.rule_text is.begun is.begins.holds.holds

  -- it has cells in range
  pub first_ranges : (cells : ℤ → ℤ → ℕ) × IsPatternOf cells first × AreInRange cells
  first_ranges = (cell is.cells, is.is_pattern, first_in_range)

  -- a file that isn't written as it is isn't converted
  pub unconverted : (target : Format) (refused : LocatedFault) → AreUnwritten target (cell is.cells) refused → (fault : ConvertFault) × (convert_fault_of refused ≡ Some fault) × IsConvertFault bytes tables target fault
  unconverted target TooManyCells h = (convert.TooManyCells, refl, (h.0, is.cells, rule_value first.rule, is.begun, is.begins.holds, is.begins.small, h.2))
  unconverted target Range h = absurd (in_range_or_out (cell is.cells) (cell is.cells) (λ x y. refl) first_in_range h)
  unconverted target Memory h = (convert.Memory, refl, reads_may_want bytes is.begins.holds.holds.readable)
  unconverted target (Unread bad) h = absurd h
  unconverted target (UnnamedRule unnamed) h = absurd h
  unconverted target StateTooLarge h = absurd h
  unconverted target GenTooLarge h = absurd h
  unconverted target Work h = absurd h

-- what is opened has cells in range
pub opened_ranges : (bytes : List ℕ) (tables : List TableRule) (r : Result Pattern LocatedFault) → IfOk r (IsPatternAfter bytes tables 0)
    → IfOk r (λ first. (cells : ℤ → ℤ → ℕ) × IsPatternOf cells first × AreInRange cells)
opened_ranges bytes tables (Ok first) is = first_ranges bytes tables first is
opened_ranges bytes tables (Err fault) is = is

-- ---- trees

-- the tree of a pattern in range
pub pattern_of_tree : (cells : ℤ → ℤ → ℕ) (stored : StoredTree) → IsTreeOf cells stored → AreInRange cells → IsPattern stored.store stored.tree
pattern_of_tree cells stored tree range = record {
  is_tree = tree.is_tree;
  low = let low = tree.low in omega (arith, low);
  trimmed = tree.trimmed;
  range = range_as cells (trees.cell stored.store stored.tree) (λ x y. sym (tree.shows x y)) range;
}

-- ---- what is reported and written

module _ (bytes : List ℕ) (tables : List TableRule) (n : ℕ) (pattern : Pattern) (is : IsPatternAfter bytes tables n pattern) where
  abbrev rule : RuleValue
  rule = rule_value pattern.rule

  abbrev f : ℤ → ℤ → ℕ
  f = after (next_of (rule_value pattern.rule)) is.cells n

  is_evolved : (later : Picture) (generation : ℕ) → generation ≡ pattern.generation → ((x y : ℤ) → f x y ≡ cell later x y) → IsEvolved bytes tables n later rule generation
  is_evolved later generation same shows = record {
    cells = is.cells;
    begun = is.begun;
    begins = is.begins;
    stands = shows;
    added = same ∙ is.added;
    low = subst (λ (g : ℕ). g < generation_limit) (sym same) is.is_pattern.low;
  }

  pub pattern_told : (summary : Summary) → IsSummaryOf pattern.kind (after (next_of (rule_value pattern.rule)) is.cells n) (rule_value pattern.rule) pattern.generation summary → IsSummaryAfter bytes tables n summary
  pattern_told summary told =
      let (later, shows) = picture_of f summary.cells told.population in
      record {
        later = later;
        rule = rule;
        evolved = is_evolved later summary.generation told.generation_is shows;
        kind = told.kind_is ∙ is.kind;
        printed = told.printed;
        population = population_shown f (cell later) shows summary.cells told.population;
        bounds = told.bounds later shows;
      }

  pub pattern_written : (target : Format) (text : List ℕ) → IsWrittenAs target (after (next_of (rule_value pattern.rule)) is.cells n) (rule_value pattern.rule) pattern.generation text → IsConvertedAfter bytes tables n target text
  pattern_written target text written = record {
    later = written.shown;
    rule = rule;
    generation = pattern.generation;
    evolved = is_evolved written.shown pattern.generation refl written.same;
    format = written.format;
    text_holds = written.holds;
    tidy = written.tidy;
  }

  low : is.begun + n < generation_limit
  low = let below = is.is_pattern.low in let added = is.added in omega (arith, below, added)
