use Rattle.std.proofs.Common.{take}
use Rattle.ca_quad.specs.inner.BitParts.{HaveCells}
use Rattle.ca_quad.proofs.store.from_bits.words_in.Given as goal

-- the part has the cells of the words so far
abbrev pub invariant-words : goal.invariant-words
invariant-words l = HaveCells (take l.word-index l.words) l.part.items l.at l.side
