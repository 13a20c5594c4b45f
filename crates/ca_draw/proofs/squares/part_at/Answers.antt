use Rattle.std.proofs.Common.{arith}
use Rattle.ca_draw.proofs.Quarters.{parts_of, lies_nw, lies_ne, lies_sw, lies_se}
use Rattle.ca_draw.proofs.squares.part_at.Goals as goal

pub returns-then-column-half : goal.returns-then-column-half
returns-then-column-half c =
    lies_nw c.args.store.now c.args.id c.args.scale c.args.column c.args.row c.squares_in-half.result c.args.level _ _ _ _
    (parts_of _ _ _ c.children.result c.index-children-0.result c.index-children-1.result c.index-children-2.result c.index-children-3.result (omega arith) c.requires.square (omega (arith, c.children.type_inv)) c.children.ensures.quarters) c.requires.most
    c.squares_in-half.ensures.count c.requires.column c.requires.row c.if-column-half.true c.if-row-half.true

pub returns-then-row-half : goal.returns-then-row-half
returns-then-row-half c =
    lies_ne c.args.store.now c.args.id c.args.scale c.args.column c.args.row c.squares_in-half.result c.args.level _ _ _ _
    (parts_of _ _ _ c.children.result c.index-children-0.result c.index-children-1.result c.index-children-2.result c.index-children-3.result (omega arith) c.requires.square (omega (arith, c.children.type_inv)) c.children.ensures.quarters) c.requires.most
    c.squares_in-half.ensures.count c.requires.column c.requires.row c.if-column-half.false c.if-row-half.true

pub returns-then-column-half-2 : goal.returns-then-column-half-2
returns-then-column-half-2 c =
    lies_sw c.args.store.now c.args.id c.args.scale c.args.column c.args.row c.squares_in-half.result c.args.level _ _ _ _
    (parts_of _ _ _ c.children.result c.index-children-0.result c.index-children-1.result c.index-children-2.result c.index-children-3.result (omega arith) c.requires.square (omega (arith, c.children.type_inv)) c.children.ensures.quarters) c.requires.most
    c.squares_in-half.ensures.count c.requires.column c.requires.row c.if-column-half-2.true c.if-row-half.false

pub returns : goal.returns
returns c =
    lies_se c.args.store.now c.args.id c.args.scale c.args.column c.args.row c.squares_in-half.result c.args.level _ _ _ _
    (parts_of _ _ _ c.children.result c.index-children-0.result c.index-children-1.result c.index-children-2.result c.index-children-3.result (omega arith) c.requires.square (omega (arith, c.children.type_inv)) c.children.ensures.quarters) c.requires.most
    c.squares_in-half.ensures.count c.requires.column c.requires.row c.if-column-half-2.false c.if-row-half.false
