use Rattle.std.proofs.Common.{[], ◌∷◌, ◌++◌}
use Rattle.ca_rle.proofs.NoFault.{no_bad_item}
use Rattle.ca_rle.proofs.DrawnItems.{next_is, drawn_more, drawn_all}
use Rattle.ca_rle.proofs.drawing.draw.Goals as goal

pub good_item-requires : goal.good_item-requires
good_item-requires g c = λ f fault. no_bad_item _ _ c.requires.0 c.items.invariant.drawn.0 f c.requires.1 c.items.invariant.drawn.1.run fault

pub draw_item-requires-clause-room : goal.draw_item-requires-clause-room
draw_item-requires-clause-room g c =
    let so_far = c.items.invariant.drawn in
    let item = c.in-Some.ensures in
    (next_is _ c.args.corner c.args.body.now _ _ _ c.requires.0 so_far.0 _ c.requires.1 c.requires.2 c.requires.3 so_far.1.run so_far.1.offset item).room

pub draw_item-requires-clause-most : goal.draw_item-requires-clause-most
draw_item-requires-clause-most g c =
    let so_far = c.items.invariant.drawn in
    let item = c.in-Some.ensures in
    (next_is _ c.args.corner c.args.body.now _ _ _ c.requires.0 so_far.0 _ c.requires.1 c.requires.2 c.requires.3 so_far.1.run so_far.1.offset item).most

pub items-preserved : goal.items-preserved
items-preserved g c =
    let so_far = c.items.invariant.drawn in
    let item = c.in-Some.ensures in
    let next = next_is _ c.args.corner c.args.body.now _ _ _ c.requires.0 so_far.0 _ c.requires.1 c.requires.2 c.requires.3 so_far.1.run so_far.1.offset item in
    record {
      drawn = (so_far.0 ++ item.0 ∷ [], drawn_more _ c.args.corner _ _ _ _ _ _ _ so_far.0 _ so_far.1 item next (record { rows = c.after_item-at.ensures.rows; columns = c.after_item-at.ensures.columns }) c.in_ok-draw_item.ensures.cells);
      kept = c.in_ok-draw_item.ensures.kept c.items.invariant.kept;
    }

pub returns-clause-shown : goal.returns-clause-shown
returns-clause-shown g c = λ all spelled. drawn_all _ _ _ _ _ c.items.invariant.drawn.0 all c.items.invariant.drawn.1 c.in_default.ensures spelled
