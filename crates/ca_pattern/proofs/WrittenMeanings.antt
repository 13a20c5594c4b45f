-- What is written means what the pattern means.
use Rattle.std.proofs.Common.{◌≡◌, ℕ, ◌≤◌, ◌<◌, List, length, Option, Some, Result, Ok, Err, refl, sym, ap, subst, ◌∙◌}
use Rattle.std.specs.Prelude.{ℤ}
use Rattle.std.specs.Option.{MatchOption}
use Rattle.std.specs.Result.{IfOk, IfErr}
use Rattle.ca_plane.specs.Prelude.{Picture, most_cells, HasTooManyCells}
use Rattle.ca_plane.specs.Plane as plane
use Rattle.ca_plane.proofs.Populations.{same_population, sparse_population}
use Rattle.ca_quad.specs.declared.{node.Node.Node, tree.Tree.Tree}
use Rattle.ca_quad.specs.Prelude.{cell}
use Rattle.ca_rle.specs.Tidy as rle
use Rattle.ca_rle.specs.Prelude.{IsWritableRle, IsWrittenRle}
use Rattle.ca_macro.specs.Tidy as macrocell
use Rattle.ca_macro.specs.File as macrocell_file
use Rattle.ca_macro.specs.Shown as macrocell_shown
use Rattle.ca_macro.specs.Prelude.{IsWritable, IsFileOf}
use Rattle.ca_macro.proofs.TidyFiles.{tidy_nodes_as}
use Rattle.ca_rule.specs.Prelude.{RuleValue, states_of, printed_form}
use Rattle.ca_pattern.specs.declared.{format.Format.Format, located_fault.LocatedFault.LocatedFault}
use Rattle.ca_pattern.specs.declared.format.Format.TheVariants.{Rle, Mc}
use Rattle.ca_pattern.specs.Prelude.{format_of, MeansAs, IsReadableAs, IsTidyTextOf, IsWrittenAs, AreUnwritten}
use Rattle.ca_pattern.specs.inner.Cells.{IsPlaneOf}
use Rattle.ca_macro.proofs.Ranges.{range_as}
use Rattle.ca_pattern.specs.declared.located_fault.LocatedFault.TheVariants.{Unread, UnnamedRule, StateTooLarge, GenTooLarge, Work, Range, TooManyCells, Memory}
use Rattle.ca_pattern.proofs.FilesRead.{in_format}
use Rattle.ca_pattern.proofs.EqualCells.{many_shown}
use Rattle.ca_pattern.proofs.PatternsRead.{listed_in_range, listed_below}

-- ---- the format

-- a tidy RLE begins with `#`
tidy_is_rle : (text : List ℕ) (cells : Picture) (rule_text : List ℕ) (generation states : ℕ) → rle.IsTidyRle text cells rule_text generation states → format_of text ≡ Rle
tidy_is_rle text cells rule_text generation states tidy = ap format_of tidy.spelled ∙ refl

-- a macrocell begins as one
file_is_macro : (text : List ℕ) (file : macrocell_file.MacrocellFile) → macrocell_file.IsMacrocellFile text file → format_of text ≡ Mc
file_is_macro text file is = rw is.begins refl

-- ---- an RLE

-- a plane that was made of a tree is its plane
pub plane_is : (nodes : List Node) (tree : Tree) (found : Option Picture) (picture : Picture) → found ≡ Some picture
    → MatchOption found (HasTooManyCells (cell nodes tree)) (IsPlaneOf nodes tree) → IsPlaneOf nodes tree picture
plane_is nodes tree found picture is h = subst (λ o. MatchOption o (HasTooManyCells (cell nodes tree)) (IsPlaneOf nodes tree)) is h

-- the plane of a tree has few cells
pub plane_is_short : (nodes : List Node) (tree : Tree) (picture : Picture) → IsPlaneOf nodes tree picture → length picture ≤ most_cells
plane_is_short nodes tree picture is =
    let (count, has, low) = is.few in
    subst (λ n. n ≤ most_cells) (same_population (cell nodes tree) (plane.cell picture) (λ x y. sym (is.shows x y)) count (length picture) has (sparse_population picture is.sparse)) low

-- and may be written where the tree's cells may
pub plane_is_writable : (nodes : List Node) (tree : Tree) (picture : Picture) (rule_text : List ℕ) (generation states : ℕ) → IsPlaneOf nodes tree picture → IsWritable nodes tree rule_text generation states → IsWritableRle picture rule_text generation states
plane_is_writable nodes tree picture rule_text generation states is writable =
    let shown : (x y : ℤ) → cell nodes tree x y ≡ plane.cell picture x y = λ x y. sym (is.shows x y) in
    record {
      range = listed_in_range picture is.sparse (range_as (cell nodes tree) (plane.cell picture) shown writable.in_range);
      low_states = listed_below states picture is.sparse (λ x y. subst (λ s. s < states) (shown x y) (writable.low_states x y));
      is_word = writable.is_word;
      low_generation = writable.low_generation;
    }

pub written_rle : (cells : Picture) (rule_text : List ℕ) (generation states : ℕ) (text : List ℕ) → length cells ≤ most_cells → IsWrittenRle text cells rule_text generation states → IsTidyTextOf Rle (plane.cell cells) rule_text generation states text
written_rle cells rule_text generation states text short written =
    let (file, is_file, within, shown, names, at) = written.means in
    let format = tidy_is_rle text cells rule_text generation states written.tidy in
    record {
      shown = cells;
      same = λ x y. refl;
      format = format;
      holds = record {
        readable = in_format (λ t. IsReadableAs t text) text Rle format (file, is_file, written.limits short file is_file);
        means = in_format (λ t. MeansAs t text cells rule_text generation) text Rle format (file, is_file, sym shown, sym names, sym at);
      };
      tidy = written.tidy;
    }

-- what is written of cells is written of the same cells, and why they aren't is why those aren't
module _ (f g : ℤ → ℤ → ℕ) (same : (x y : ℤ) → f x y ≡ g x y) where
  pub written_ok : (target : Format) (rule_text : List ℕ) (generation states : ℕ) {A E : Type 0} (items : A → List ℕ) (r : Result A E) → IfOk r (λ a. IsTidyTextOf target f rule_text generation states (items a)) → IfOk r (λ a. IsTidyTextOf target g rule_text generation states (items a))
  written_ok target rule_text generation states items (Ok a) written = record { shown = written.shown; same = λ x y. sym (same x y) ∙ written.same x y; format = written.format; holds = written.holds; tidy = written.tidy }
  written_ok target rule_text generation states items (Err e) written = written

  unwritten : (target : Format) (fault : LocatedFault) → AreUnwritten target f fault → AreUnwritten target g fault
  unwritten target TooManyCells h = (h.0, range_as f g same h.1, many_shown f g same h.2)
  unwritten target Range h = (h.0, h.1, (λ e. h.2 (same h.0 h.1 ∙ e)), h.3)
  unwritten target (Unread bad) h = h
  unwritten target (UnnamedRule unnamed) h = h
  unwritten target StateTooLarge h = h
  unwritten target GenTooLarge h = h
  unwritten target Work h = h
  unwritten target Memory h = h

  pub unwritten_err : (target : Format) {A : Type 0} (r : Result A LocatedFault) → IfErr r (AreUnwritten target f) → IfErr r (AreUnwritten target g)
  unwritten_err target (Ok a) h = h
  unwritten_err target (Err e) h = unwritten target e h

-- ---- a macrocell

-- a text that is tidy for cells is so for the same cells
module _ (f g : ℤ → ℤ → ℕ) (same : (x y : ℤ) → f x y ≡ g x y) where
  pub tidy_shown : (text rule_text : List ℕ) (generation states : ℕ) → macrocell.IsTidyMacrocell text f rule_text generation states → macrocell.IsTidyMacrocell text g rule_text generation states
  tidy_shown text rule_text generation states tidy = record { nodes = tidy.nodes; tidy = tidy_nodes_as states f g tidy.nodes same tidy.tidy; spelled = tidy.spelled }

pub written_macro : (f : ℤ → ℤ → ℕ) (rule_text : List ℕ) (generation states : ℕ) (text : List ℕ) → macrocell.IsTidyMacrocell text f rule_text generation states → IsFileOf text f rule_text generation → IsTidyTextOf Mc f rule_text generation states text
written_macro f rule_text generation states text tidy (file, is_file, within, holds) =
    let format = file_is_macro text file is_file in
    let cells = macrocell_shown.picture_of_nodes file.nodes in
    let same : (x y : ℤ) → f x y ≡ plane.cell cells x y = λ x y. sym (holds.shown x y) in
    record {
      shown = cells;
      same = same;
      format = format;
      holds = record {
        readable = in_format (λ t. IsReadableAs t text) text Mc format (file, is_file, within);
        means = in_format (λ t. MeansAs t text cells rule_text generation) text Mc format (file, is_file, refl, sym holds.rule_is, sym holds.generation_is);
      };
      tidy = tidy_shown f (plane.cell cells) same text rule_text generation states tidy;
    }

-- ---- rules

-- a text with the printed form of a rule, and as many states as it has
module _ (target : Format) (f : ℤ → ℤ → ℕ) (rule : RuleValue) (rule_text : List ℕ) (generation states : ℕ) (printed : rule_text ≡ printed_form rule) (count : states ≡ states_of rule) where
  pub printed_text : (text : List ℕ) → IsTidyTextOf target f rule_text generation states text → IsWrittenAs target f rule generation text
  printed_text text is = subst (λ t. IsTidyTextOf target f t generation (states_of rule) text) printed (subst (λ n. IsTidyTextOf target f rule_text generation n text) count is)

  pub printed_ok : {A E : Type 0} (items : A → List ℕ) (r : Result A E) → IfOk r (λ a. IsTidyTextOf target f rule_text generation states (items a)) → IfOk r (λ a. IsWrittenAs target f rule generation (items a))
  printed_ok items (Ok a) is = printed_text (items a) is
  printed_ok items (Err e) is = is
