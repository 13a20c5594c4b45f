-- Patterns that were read, with their rules.
use Rattle.std.proofs.Common.{ℕ, List, refl, arith}
use Rattle.ca_quad.specs.declared.node.Node.{Node}
use Rattle.ca_quad.specs.Trees as trees
use Rattle.ca_rule.specs.Prelude.{TableRule, NamesRule}
use Rattle.ca_pattern.specs.declared.{pattern.Loaded.Loaded, ruled.RuledPattern.RuledPattern}
use Rattle.ca_pattern.specs.Prelude.{HoldsRuledPattern, IsReadFrom, rule_of, IsPattern}
use Rattle.ca_pattern.proofs.CellsNearMiddle.{range_held, trimmed_low}

-- the tree that is read from a file is that of a pattern
pub read_pattern : (nodes : List Node) (bytes : List ℕ) (pattern : Loaded) → IsReadFrom nodes bytes pattern → IsPattern nodes pattern.tree
read_pattern nodes bytes pattern read =
    let cells = trees.cell nodes pattern.tree in
    let low = trimmed_low nodes pattern.tree cells 61 (omega arith) read.loaded.trimmed (λ x y. refl) (range_held cells read.range) in
    record { is_tree = read.loaded.tree; low = omega (arith, low); trimmed = read.loaded.trimmed; range = read.range }

-- a file holds the pattern that was read of it, with the rule that its rule text names
pub holds_ruled : (nodes : List Node) (bytes : List ℕ) (tables : List TableRule) (ruled : RuledPattern) (read : IsReadFrom nodes bytes ruled.pattern) → NamesRule ruled.pattern.rule_text.items tables (rule_of ruled)
    → HoldsRuledPattern bytes tables read.cells (rule_of ruled) ruled.pattern.generation
holds_ruled nodes bytes tables ruled read names = record { rule_text = ruled.pattern.rule_text.items; holds = read.loaded.holds; names = names }
