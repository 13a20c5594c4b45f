use Rattle.std.proofs.Common.{◌*◌, ◌∙◌, arith}
use Rattle.std.specs.Prelude.{pos, ◌+ℤ◌}
use Rattle.std.proofs.lemmas.List.{length-set}
use Rattle.ca_bricks.specs.Prelude.{WordShows}
use Rattle.ca_bricks.proofs.BrickLists.{set_more}
use Rattle.ca_run.proofs.leaper.Leaper.eight_words.Goals as goal

pub words-preserved : goal.words-preserved
words-preserved g c =
    let inv = c.words.invariant in
    let words = c.words.words in
    let k = c.words.k in
    let word = c.in_ok-words.field-0 in
    record {
      size = length-set words k word ∙ inv.size;
      shown = λ p a b shows.
          set_more (λ m w. WordShows w (λ x y. g.P.StatePlane.bit_of c.args.plane (p x y)) (a +ℤ pos (8 * m)) (b +ℤ pos (8 * c.args.row))) words k word (omega (arith, inv.size, c.words-test.true)) (inv.shown p a b shows)
          (c.in_ok-words.ensures p (a +ℤ pos (8 * k)) (b +ℤ pos (8 * c.args.row)) (c.part_at.ensures.shows p a b shows));
    }

pub returns : goal.returns
returns g c = λ p a b shows k h. c.words.invariant.shown p a b shows k (omega (arith, c.words-test.false, h))
