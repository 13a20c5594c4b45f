use Rattle.std.proofs.Common.{arith}
use Rattle.ca_draw.proofs.Quarters.{whole_blank, part_blank}
use Rattle.ca_draw.proofs.squares.+is_blank_in.Goals as goal

pub returns-then-level-scale : goal.returns-then-level-scale
returns-then-level-scale t c =
    whole_blank c.args.store.now c.args.id c.args.level c.args.scale c.args.column c.args.row c.if-level-scale.true c.requires.column c.requires.row c.is_empty.result
    (c.is_empty.ensures c.args.level c.requires.square)

pub returns : goal.returns
returns t c = part_blank c.args.store.now c.args.id c.args.level c.args.scale c.args.column c.args.row c.part_at-part.result (omega arith) c.part_at-part.ensures c.is_blank_in.result c.is_blank_in.ensures
