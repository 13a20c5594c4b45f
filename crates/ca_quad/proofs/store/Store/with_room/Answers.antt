use Rattle.std.proofs.Common.{arith}
use Rattle.ca_quad.proofs.store.Store.with_room.Goals as goal

pub padded_for-requires-clause-least : goal.padded_for-requires-clause-least
padded_for-requires-clause-least c = omega (arith, c.in_ok-wider.ensures.level, c.in_ok-wide.ensures.level, c.requires.least)
