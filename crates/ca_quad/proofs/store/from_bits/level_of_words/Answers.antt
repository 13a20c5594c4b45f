use Rattle.std.proofs.Common.{subst, arith}
use Rattle.std.proofs.lemmas.List.{take_all}
use Rattle.ca_plane.specs.Prelude.{bit_cell}
use Rattle.ca_quad.specs.Prelude.{HoldsAll}
use Rattle.ca_quad.proofs.BitWords.{holds_word, holds_taken}
use Rattle.ca_quad.proofs.store.from_bits.level_of_words.Goals as goal

pub words-preserved : goal.words-preserved
words-preserved c = record {
  least = omega (arith, c.words.invariant.least, c.level_from-level.ensures.from);
  most = c.level_from-level.ensures.most;
  holds = holds_taken c.args.words.now c.words.word-index c.words.level c.level_from-level.result _ c.words-test.true c.level_from-level.ensures.from c.words.invariant.holds (holds_word _ c.box_of.result c.level_from-level.result c.box_of.ensures c.level_from-level.ensures.holds);
}

pub returns-clause-holds : goal.returns-clause-holds
returns-clause-holds c = subst (λ l. HoldsAll c.words.level (bit_cell l)) (take_all c.words.word-index c.args.words.now c.words-test.false) c.words.invariant.holds
