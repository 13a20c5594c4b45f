use Rattle.std.proofs.Common.{refl}
use Rattle.ca_quad.specs.Prelude.{level_of}
use Rattle.ca_quad.specs.inner.Drawn.{square_cells}
use Rattle.ca_quad.proofs.PaintedCells.{none_is_live, added, added_none}
use Rattle.ca_quad.proofs.store.Store.push_live.Goals as goal

pub returns-then-is_empty : goal.returns-then-is_empty
returns-then-is_empty c =
    let nodes = c.args.self.now in
    let id = c.args.square.id in
    added_none nodes c.args.square c.args.squares.now.items
    (none_is_live (square_cells nodes id) c.args.square.at ((c.is_empty.ensures (level_of nodes id) (record { before = c.requires; is_level = refl })).0 c.if-is_empty.true))

pub returns : goal.returns
returns c = added c.args.self.now c.args.square c.args.squares.now.items c.push.new.self.items c.in_ok-push.ensures.items
