-- The names of this crate's definitions that other crates and proofs cite, passed on from one place. It declares nothing.
pub use Rattle.ca_macro.specs.Nodes.{Node, Leaf, Cells, Parts, NamesPart, IsLevel, node_level, MayFollow, leaf_rows, IsLeaf, leaf_mark}
pub use Rattle.ca_macro.specs.File.{MacrocellLine, Nothing, Rule, Generation, Adds, AreNumbers, MacrocellWordsSay, added_nodes, IsAllowedNode, MacrocellLinesSay, MacrocellFile, begins_macro, IsMacrocellFile, IsNumber, last_rule, last_line_generation, is_comment}
pub use Rattle.ca_macro.specs.Shown.{row_from, rows_from, leaf_state, joined_picture, numbered_square, node_picture, squares_after, squares_of, centred_picture, root_picture, picture_of_nodes}
pub use Rattle.ca_macro.specs.Limits.{IsMacrocellWithinRange, IsMacrocellOutOfRange}
pub use Rattle.ca_macro.specs.Faults.{HasMacrocellLine, is_leaf_byte, HasBadPart, AreFaulty, IsFirstMacrocellFault, HasBadByte, AddNode, AreMisspelledNodeWords, IsFirstMacrocellFaultOn, IsFaultyMacrocellLine, IsMacrocellFault, IsMacrocellFaultOn, HavePart, LackNumbers}
pub use Rattle.ca_macro.specs.Pattern.{AreInRange, Holds, IsWritable, IsFileOf}
pub use Rattle.ca_macro.specs.Tidy.{node_parts, walks_after, AreInPlace, HasForm, is_empty, node_text, lowest_level, IsLeastLevel, walk_of, numbers_once, tidy_lines, IsTidyMacrocell, Fits, AreTidyNodes, generation_lines, numbers_text}
pub use Rattle.ca_macro.specs.Examples.{after_first, cut_numbers_text, glider_leaf, cut_leaf, golly_leaf, mixed_leaf, glider_file, glider, cross_file, cross}
