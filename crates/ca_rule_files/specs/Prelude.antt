-- The names of this crate's definitions that other crates and proofs cite, passed on from one place. It declares nothing.
pub use Rattle.ca_rule_files.specs.Kinds.{live_neighbours, letter_of, kinds_of_one, kinds_of_two, kinds_of_three, kinds_of_four, kinds_with, turned, mirrored, kinds_of, has_no_letter, turns, neighbours}
pub use Rattle.ca_rule_files.specs.Isotropic.{parts, part_has, has_kind, isotropic_next, is_kind_list, SpellsIsotropicRule, is_letter, lettered_kinds, has_letter, are_letters, is_part, gives_birth_alone}
pub use Rattle.ca_rule_files.specs.Map.{IsMap, is_base64, sextet, are_characters, map_next, number_of}
pub use Rattle.ca_rule_files.specs.TextRules.{TextRule, Bs, Isotropic, Map, Generations, NamesTextRule, IsTextRuleFault}
pub use Rattle.ca_rule_files.specs.RuleFiles.{IsTableName, WritesRule}
pub use Rattle.ca_rule_files.specs.Examples.{AreNineCells, counted_next, life_characters}
