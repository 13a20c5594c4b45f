use Rattle.ca_rle.proofs.ItemTexts.{count-le}
use Rattle.ca_rle.proofs.write.layout.push_count.Goals as goal

pub returns-clause-short : goal.returns-clause-short
returns-clause-short c = count-le c.args.count c.ranges.count.fits
