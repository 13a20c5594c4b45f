use Rattle.std.proofs.Common.{◌+◌}
use Rattle.ca_quad.specs.inner.Extent.{box_of_two, transposed}
use Rattle.ca_quad.proofs.store.extent.OptionExtentMeasure.of_four.Goals as goal

pub returns : goal.returns
returns c = λ nw ne sw se _ _ _ _ i j k l.
    let side = c.args.side in
    let north = c.box_of_two-north.ensures nw ne side i j in
    let south = c.box_of_two-south.ensures sw se side k l in
    c.transposed-3.ensures (box_of_two side (transposed (box_of_two side nw ne)) (transposed (box_of_two side sw se))) (side + side) (side + side)
    (c.box_of_two.ensures (transposed (box_of_two side nw ne)) (transposed (box_of_two side sw se)) (side + side) (c.transposed.ensures (box_of_two side nw ne) (side + side) side north) (c.transposed-2.ensures (box_of_two side sw se) (side + side) side south))
