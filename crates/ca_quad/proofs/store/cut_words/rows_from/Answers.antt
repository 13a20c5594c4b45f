use Rattle.ca_quad.proofs.CutWords.{north_rows, south_rows}
use Rattle.ca_quad.proofs.store.cut_words.rows_from.Goals as goal

pub returns-clause-north : goal.returns-clause-north
returns-clause-north c = rw (c.from.ensures, c.from-2.ensures) (north_rows c.args.north c.args.south c.args.row c.ranges.north.fits)

pub returns-clause-south : goal.returns-clause-south
returns-clause-south c = rw (c.from.ensures, c.from-2.ensures) (south_rows c.args.north c.args.south c.args.row c.ranges.north.fits)
