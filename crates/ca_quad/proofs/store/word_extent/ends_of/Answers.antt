use Rattle.ca_quad.proofs.WordExtents.{are_ends}
use Rattle.ca_quad.proofs.store.word_extent.ends_of.Goals as goal

pub returns : goal.returns
returns c = are_ends c.args.word c.requires c.ranges.word.fits
