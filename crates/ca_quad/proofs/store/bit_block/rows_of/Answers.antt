use Rattle.ca_quad.proofs.BitWords.{cells_taken, no_rows_live}
use Rattle.ca_quad.proofs.store.bit_block.rows_of.Goals as goal

pub words-init : goal.words-init
words-init c = λ x y i j. no_rows_live c.args.at x y i j

pub words-preserved : goal.words-preserved
words-preserved c = cells_taken c.args.words.now c.words.word-index _ c.args.at c.words.rows c.put_word.new.rows c.words-test.true c.put_word.ensures c.words.invariant
