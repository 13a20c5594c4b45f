-- A pattern in a store of squares: what is read from a macrocell text, and what can be written as one.
use Rattle.std.specs.Prelude.{◌≡◌, ◌≢◌, ℕ, ◌<◌, ℤ, List}
use Rattle.ca_plane.specs.Prelude.{IsWord, IsPicture, cell, IsInRange, generation_limit}
use Rattle.ca_quad.specs.declared.{node.Node.Node, tree.Tree.Tree}
use Rattle.ca_quad.specs.Trees as trees
use Rattle.ca_quad.specs.Prelude.{IsTrimmed}
use Rattle.ca_macro.specs.declared.pattern.MacroPattern.{MacroPattern}
use Rattle.ca_macro.specs.{File.MacrocellFile, File.IsMacrocellFile, Limits.IsMacrocellWithinRange, Shown.picture_of_nodes}

-- the pattern has the file's cells, rule text and generation; its tree has the smallest level, the file's picture has
-- states from 1 to 255, the generation is below the limit, and the rule text is a word
pub record IsMacrocellPattern (nodes : List Node) (file : MacrocellFile) (pattern : MacroPattern) : Type 0 where
  pub tree : trees.IsTree nodes pattern.tree
  pub trimmed : IsTrimmed nodes pattern.tree
  pub cells : (x y : ℤ) → trees.cell nodes pattern.tree x y ≡ cell (picture_of_nodes file.nodes) x y
  pub states : IsPicture (picture_of_nodes file.nodes)
  pub rule_text : pattern.rule_text.items ≡ file.rule_text
  pub generation : pattern.generation ≡ file.generation
  pub low_generation : pattern.generation < generation_limit
  pub is_word : IsWord pattern.rule_text.items

-- the text is a file whose live cells are in range, and it holds this pattern
abbrev pub HoldsMacrocellPattern : List Node → List ℕ → MacroPattern → Type 0
HoldsMacrocellPattern nodes bytes pattern = (file : MacrocellFile) × IsMacrocellFile bytes file × IsMacrocellWithinRange file × IsMacrocellPattern nodes file pattern

-- every live cell is in range
abbrev pub AreInRange : (ℤ → ℤ → ℕ) → Type 0
AreInRange cells = (x y : ℤ) → cells x y ≢ 0 → IsInRange (record { y = y; x = x })

-- the file means these cells, this rule text and this generation
pub record Holds (file : MacrocellFile) (cells : ℤ → ℤ → ℕ) (rule_text : List ℕ) (generation : ℕ) : Type 0 where
  pub shown : (x y : ℤ) → cell (picture_of_nodes file.nodes) x y ≡ cells x y
  pub rule_is : file.rule_text ≡ rule_text
  pub generation_is : file.generation ≡ generation

-- the text is a file whose live cells are in range, and it means these cells, this rule text and this
-- generation
abbrev pub IsFileOf : List ℕ → (ℤ → ℤ → ℕ) → List ℕ → ℕ → Type 0
IsFileOf text cells rule_text generation =
    (file : MacrocellFile) × IsMacrocellFile text file × IsMacrocellWithinRange file × Holds file cells rule_text generation

-- a tree can be written with this rule text and generation, under a rule of this many states
pub record IsWritable (nodes : List Node) (tree : Tree) (rule_text : List ℕ) (generation states : ℕ) : Type 0
  where
    pub is_tree : trees.IsTree nodes tree
    pub in_range : AreInRange (trees.cell nodes tree)
    pub low_states : (x y : ℤ) → trees.cell nodes tree x y < states
    pub is_word : IsWord rule_text
    pub low_generation : generation < generation_limit
