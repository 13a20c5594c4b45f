use Rattle.std.proofs.Common.{arith}
use Rattle.ca_quad.proofs.Shifts.{room_left}
use Rattle.ca_quad.proofs.store.Store.+padded_for.Goals as goal

pub padded_for-requires : goal.padded_for-requires
padded_for-requires t c =
    let left = room_left c.args.tree.level c.args.offset c.half_side.result c.requires.least c.requires.short c.half_side.ensures.half c.if-offset-half_side.false in
    let next = c.in_ok-wide.ensures.level in
    (omega (arith, c.decreases), (c.in_ok-wide.ensures.tree, (omega (arith, c.requires.least), (omega arith, c.requires.short))))
