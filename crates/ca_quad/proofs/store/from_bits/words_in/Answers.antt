use Rattle.std.proofs.Common.{refl}
use Rattle.ca_quad.proofs.BitWords.{more_taken, less_taken}
use Rattle.ca_quad.proofs.store.from_bits.words_in.Goals as goal
use Rattle.ca_quad.proofs.store.from_bits.words_in.Goals.{then-reaches+in_ok-push, else-reaches}

pub words-preserved : goal.words-preserved
words-preserved c =
    let words = c.args.words.now in
    let part = c.words.part.items in
    let k = c.words.word-index in
    elim c.if-reaches.branch [
      | then-reaches+in_ok-push w ↦ rw (w.part-is, w.in_ok-push.ensures.items) (more_taken words part k _ c.args.at c.args.side c.words-test.true c.words.invariant)
      | else-reaches w ↦ rw w.part-is (less_taken words part k _ c.args.at c.args.side c.words-test.true (w.if-reaches.ensures refl) c.words.invariant)
    ]
