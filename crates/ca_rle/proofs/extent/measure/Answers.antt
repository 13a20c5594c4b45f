use Rattle.std.proofs.Common.{[], ◌∷◌, ◌++◌}
use Rattle.ca_rle.proofs.MeasuredItems.{measured_more}
use Rattle.ca_rle.proofs.SpanItems.{span_more}
use Rattle.ca_rle.proofs.extent.measure.Goals as goal

pub items-preserved : goal.items-preserved
items-preserved c =
    let (items, measured, spans) = c.items.invariant in
    let item = rw c.in-Some.is at c.in_ok-item.ensures in
    let more = measured_more _ _ _ _ _ _ _ items c.in-Some.item measured item
    (record { rows = c.after_item-at.ensures.rows; columns = c.after_item-at.ensures.columns })
    (record { longest = c.with_item-extent.ensures.longest; right = c.with_item-extent.ensures.right; bottom = c.with_item-extent.ensures.bottom; cells = c.with_item-extent.ensures.cells; greatest = c.with_item-extent.ensures.greatest })
    in
    (items ++ item.0 ∷ [], more, span_more _ _ _ _ items c.in-Some.item _ _ measured.run measured.offset item spans c.with_item-extent.ensures.dead c.with_item-extent.ensures.live)
