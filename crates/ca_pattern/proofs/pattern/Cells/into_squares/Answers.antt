use Rattle.std.proofs.Common.{◌≡◌, ℤ, subst, ◌∙◌}
use Rattle.ca_quad.specs.Trees as trees
use Rattle.ca_pattern.specs.Prelude.{AreCells}
use Rattle.ca_pattern.proofs.OpenedCells.{tree_of_cells, text_in_range}
use Rattle.ca_pattern.proofs.pattern.Cells.into_squares.Goals as goal

pub returns-in_ok-tree-in-Text-clause-tree : goal.returns-in_ok-tree-in-Text-clause-tree
returns-in_ok-tree-in-Text-clause-tree c = λ cells are.
    let (bytes, is, shows) = subst (λ s. AreCells s cells) c.in-Text.is are in
    let told = c.in_ok-tree-in-Text.ensures in
    let drawn : (x y : ℤ) → trees.cell c.tree_of.new.store c.in_ok-tree-in-Text.tree x y ≡ cells x y = λ x y. told.cells x y ∙ c.in_ok-packed-in-Text.ensures.cells bytes is x y ∙ shows x y in
    tree_of_cells c.tree_of.new.store c.in_ok-tree-in-Text.tree cells told.tree told.trimmed drawn (text_in_range bytes c.in-Text.text is cells shows)
