-- The cells of a pattern that was opened.
use Rattle.std.specs.Prelude.{◌≡◌, ℕ, ◌<◌, ◌≤◌, ℤ, List}
use Rattle.ca_plane.specs.Prelude.{cell, generation_limit}
use Rattle.ca_quad.specs.Trees as trees
use Rattle.ca_quad.specs.Prelude.{IsTrimmed}
use Rattle.ca_rle.specs.Prelude.{IsRleText, picture_of_items}
use Rattle.ca_rule.specs.Prelude.{rule_value}
use Rattle.ca_pattern.specs.declared.pattern.{Cells.Cells, Pattern.Pattern, StoredTree.StoredTree}
use Rattle.ca_pattern.specs.declared.pattern.Cells.TheVariants.{Text, Squares}
use Rattle.ca_pattern.specs.States.{HasSmallStates}

-- the tree shows these cells in its store, at every x and y, and has the smallest level
pub record IsTreeOf (cells : ℤ → ℤ → ℕ) (stored : StoredTree) : Type 0 where
  pub is_tree : trees.IsTree stored.store stored.tree
  pub low : stored.tree.level ≤ 62
  pub trimmed : IsTrimmed stored.store stored.tree
  pub shows : (x y : ℤ) → trees.cell stored.store stored.tree x y ≡ cells x y

-- a pattern's cells are these: those of the items of an RLE file that was judged, or those of a tree
abbrev pub AreCells : Cells → (ℤ → ℤ → ℕ) → Type 0
AreCells (Text text) cells = (bytes : List ℕ) × (is : IsRleText bytes text)
    × ((x y : ℤ) → cell (picture_of_items text.corner is.file.items) x y ≡ cells x y)
AreCells (Squares stored) cells = IsTreeOf cells stored

-- the generation of an RLE file that stays in its bytes is that of its text
abbrev pub IsGenerationOf : Cells → ℕ → Type 0
IsGenerationOf (Text text) generation = text.generation ≡ generation
IsGenerationOf (Squares stored) generation = Unit {0}

-- the pattern has these cells, of small states under its rule, at a generation below the limit
pub record IsPatternOf (cells : ℤ → ℤ → ℕ) (pattern : Pattern) : Type 0 where
  pub are_cells : AreCells pattern.cells cells
  pub small : HasSmallStates (rule_value pattern.rule) cells
  pub generation_is : IsGenerationOf pattern.cells pattern.generation
  pub low : pattern.generation < generation_limit
