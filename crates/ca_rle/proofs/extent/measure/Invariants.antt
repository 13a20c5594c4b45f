use Rattle.std.proofs.Common.{List, length}
use Rattle.ca_rle.specs.declared.item.Item.{Item}
use Rattle.ca_rle.specs.inner.Boxes.{IsSpanOf}
use Rattle.ca_rle.proofs.MeasuredItems.{IsMeasured}
use Rattle.ca_rle.proofs.extent.measure.Given as goal

-- the items so far were measured
abbrev pub invariant-items : goal.invariant-items
invariant-items l = (items : List Item) × IsMeasured l.body l.rest l.at l.extent items × IsSpanOf items l.extent.span

abbrev pub decreases-items : goal.decreases-items
decreases-items l = length l.rest
