use Rattle.std.proofs.Common.{List, length}
use Rattle.ca_rle.specs.declared.item.Item.{Item}
use Rattle.ca_rle.proofs.RewrittenItems.{IsRewritten}
use Rattle.ca_rle.proofs.write.again.push_items_of.Given as goal

-- the cells of the items so far are written
abbrev pub invariant-items : goal.invariant-items
invariant-items l = (items : List Item) × IsRewritten l.fn.out.items l.out.items l.states l.corner l.pending l.text.corner l.text.body.now l.rest l.at items

abbrev pub decreases-items : goal.decreases-items
decreases-items l = length l.rest
