use Rattle.ca_quad.proofs.Words.{shows_word}
use Rattle.ca_quad.proofs.store.Store.from_word.Goals as goal

pub returns-clause-shows : goal.returns-clause-shows
returns-clause-shows c =
    shows_word c.put.new.self c.put.ensures.grows.sound c.corners.result c.args.word c.ranges.word.fits c.corners.ensures c.put.result c.corners.type_inv
    c.put.ensures.known c.put.ensures.shows
