use Rattle.std.proofs.Common.{◌≤◌, take}
use Rattle.ca_plane.specs.Prelude.{bit_cell}
use Rattle.ca_quad.specs.Prelude.{HoldsAll}
use Rattle.ca_quad.proofs.store.from_bits.level_of_words.Given as goal

-- a tree of this level holds the cells of the words so far
abbrev pub invariant-words : goal.invariant-words
invariant-words l = record {
  least : 6 ≤ l.level;
  most : l.level ≤ 65;
  holds : HoldsAll l.level (bit_cell (take l.word-index l.words));
}
