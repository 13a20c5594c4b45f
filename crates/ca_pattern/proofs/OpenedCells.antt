-- The cells of a pattern, in each of their forms.
use Rattle.std.proofs.Common.{◌≡◌, ℕ, zero, suc, ◌<◌, ◌≤◌, List, refl, sym, ap, ◌∙◌, arith}
use Rattle.std.specs.Prelude.{ℤ}
use Rattle.ca_plane.specs.declared.point.Point.{Point}
use Rattle.ca_plane.specs.Prelude.{cell}
use Rattle.ca_quad.specs.declared.{node.Node.Node, tree.Tree.Tree}
use Rattle.ca_quad.specs.Trees as trees
use Rattle.ca_quad.specs.Prelude.{IsTrimmed}
use Rattle.ca_macro.specs.Prelude.{AreInRange}
use Rattle.ca_macro.proofs.Ranges.{cells_in_range}
use Rattle.ca_rle.specs.declared.rle_text.RleText.{RleText}
use Rattle.ca_rle.specs.Prelude.{IsRleText, picture_of_items}
use Rattle.ca_rle.proofs.OneList.{one_list}
use Rattle.ca_rule.specs.Prelude.{RuleValue, states_of}
use Rattle.ca_pattern.specs.declared.pattern.Cells.{Cells}
use Rattle.ca_pattern.specs.declared.pattern.Cells.TheVariants.{Text, Squares}
use Rattle.ca_pattern.specs.Prelude.{AreCells, IsTreeOf, HasSmallStates}
use Rattle.ca_pattern.proofs.CellsNearMiddle.{range_held, trimmed_low}
use Rattle.ca_pattern.proofs.LaterPlanes.{range_shown}

-- they show one state at every x and y
pub one_cells : (cells : Cells) (f g : ℤ → ℤ → ℕ) → AreCells cells f → AreCells cells g → (x y : ℤ) → f x y ≡ g x y
one_cells (Text text) f g (bytes, is, shows) (others, are, show) x y =
    let same = one_list text.body.now is.file.items are.file.items is.items are.items in
    sym (shows x y) ∙ ap (λ items. cell (picture_of_items text.corner items) x y) same ∙ show x y
one_cells (Squares stored) f g is are x y = sym (is.shows x y) ∙ are.shows x y

-- a trimmed tree of cells in range is a low one
pub tree_of_cells : (nodes : List Node) (tree : Tree) (f : ℤ → ℤ → ℕ) → trees.IsTree nodes tree → IsTrimmed nodes tree → ((x y : ℤ) → trees.cell nodes tree x y ≡ f x y) → AreInRange f
    → IsTreeOf f (record { store = nodes; tree = tree })
tree_of_cells nodes tree f is_tree trimmed shows range =
    let low = trimmed_low nodes tree f 61 (omega arith) trimmed shows (range_held f range) in
    record { is_tree = is_tree; low = omega (arith, low); trimmed = trimmed; shows = shows }

module _ (bytes : List ℕ) (text : RleText) (is : IsRleText bytes text) where
  -- the cells of a text, as the file shows them
  pub text_cells : (x y : ℤ) → cell (picture_of_items text.corner is.file.items) x y ≡ cell (picture_of_items is.file.corner is.file.items) x y
  text_cells x y = ap (λ (at : Point). cell (picture_of_items at is.file.items) x y) is.corner

  module _ (f : ℤ → ℤ → ℕ) (shows : (x y : ℤ) → cell (picture_of_items text.corner is.file.items) x y ≡ f x y) where
    -- they are in range
    pub text_in_range : AreInRange f
    text_in_range = range_shown (cell (picture_of_items is.file.corner is.file.items)) f (λ x y. sym (text_cells x y) ∙ shows x y)
        (cells_in_range (picture_of_items is.file.corner is.file.items) is.within.0.cells)

    -- and the greatest state is one of theirs
    pub greatest_small : (rule : RuleValue) → 2 ≤ states_of rule → HasSmallStates rule f → text.greatest < states_of rule
    greatest_small rule some small = by_greatest text.greatest refl
      where
        by_greatest : (n : ℕ) → text.greatest ≡ n → text.greatest < states_of rule
        by_greatest zero e = omega (arith, e, some)
        by_greatest (suc n) e =
            let (x, y, at) = is.greatest (λ none. omega (arith, none, e)) in
            let below = small x y in
            let same = sym (shows x y) ∙ text_cells x y ∙ at in
            omega (arith, below, same)
