use Rattle.std.proofs.Common.{arith}
use Rattle.std.proofs.lemmas.Int.{ints}
use Rattle.ca_bricks.proofs.Words.{power_words}
use Rattle.ca_bricks.proofs.places.words_back.Goals as goal

pub returns : goal.returns
returns c =
    let words = power_words c.args.power c.requires.least in
    omega (arith, ints, words, c.requires.aligned.1, c.reach_of.ensures.value, c.reach_of.ensures.most, c.requires.low, c.requires.high)
