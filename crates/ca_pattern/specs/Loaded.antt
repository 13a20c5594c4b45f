-- Patterns that were read into a store of squares.
use Rattle.std.specs.Prelude.{◌≡◌, ℕ, ℤ, List}
use Rattle.ca_plane.specs.Prelude.{Picture, cell}
use Rattle.ca_quad.specs.declared.node.Node.{Node}
use Rattle.ca_quad.specs.Trees as trees
use Rattle.ca_quad.specs.Prelude.{IsTrimmed}
use Rattle.ca_pattern.specs.declared.pattern.Loaded.{Loaded}
use Rattle.ca_pattern.specs.{Formats.format_of, Means.HoldsPattern}

-- the pattern is what the bytes mean, in the store of these nodes: its tree shows these cells and has the smallest
-- level
pub record IsLoaded (nodes : List Node) (bytes : List ℕ) (cells : Picture) (loaded : Loaded) : Type 0 where
  pub kind : loaded.kind ≡ format_of bytes
  pub tree : trees.IsTree nodes loaded.tree
  pub trimmed : IsTrimmed nodes loaded.tree
  pub shows : (x y : ℤ) → trees.cell nodes loaded.tree x y ≡ cell cells x y
  pub holds : HoldsPattern bytes cells loaded.rule_text.items loaded.generation
