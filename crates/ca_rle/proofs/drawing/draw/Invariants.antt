use Rattle.std.proofs.Common.{List, length}
use Rattle.ca_rle.specs.declared.item.Item.{Item}
use Rattle.ca_rle.proofs.DrawnItems.{IsDrawn}
use Rattle.ca_rle.proofs.drawing.draw.Given as goal

-- the items so far were drawn
abbrev pub invariant-items : goal.invariant-items
invariant-items g l = record {
  drawn : (items : List Item) × IsDrawn l.corner l.body l.rest l.at (g.C.Canvas.shown l.canvas) items;
  kept : g.C.Canvas.is_kept l.canvas;
}

abbrev pub decreases-items : goal.decreases-items
decreases-items g l = length l.rest
