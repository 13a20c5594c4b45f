use Rattle.std.proofs.Common.{FitsSigned, arith, rules}
use Rattle.std.specs.Int.{w128}
use Rattle.std.proofs.lemmas.Int.{to_z-of_z}
use Rattle.ca_draw.proofs.Edges.{by_cell, by_column, by_row, by_part, across_tree}
use Rattle.ca_draw.proofs.squares.has_live.Goals as goal

pub returns-then-scale-eq0 : goal.returns-then-scale-eq0
returns-then-scale-eq0 c =
    let f : FitsSigned w128 c.args.column = search rules in
    let g : FitsSigned w128 c.args.row = search rules in
    by_cell c.args.store.now c.args.tree.now c.grid_of-scale.ensures.some c.args.scale c.grid_of-scale.result.scale c.args.column c.args.row c.grid_of-scale.ensures.scale
    c.cell.result c.if-scale-eq0.true (simp (to_z-of_z, f, g) at c.cell.ensures)

pub returns-in_default : goal.returns-in_default
returns-in_default c =
    let f : FitsSigned w128 c.args.column = search rules in
    let off = simp (to_z-of_z, f) at c.in_default.ensures.outside in
    by_column c.args.store.now c.args.tree.now c.grid_of-scale.ensures.some c.args.scale c.grid_of-scale.result.scale c.args.column c.args.row c.grid_of-scale.ensures.scale
    c.grid_of-scale.result.half c.grid_of-scale.ensures.half off

pub returns-in_default-edge_distance : goal.returns-in_default-edge_distance
returns-in_default-edge_distance c =
    let g : FitsSigned w128 c.args.row = search rules in
    let off = simp (to_z-of_z, g) at c.in_default-edge_distance.ensures.outside in
    by_row c.args.store.now c.args.tree.now c.grid_of-scale.ensures.some c.args.scale c.grid_of-scale.result.scale c.args.column c.args.row c.grid_of-scale.ensures.scale
    c.grid_of-scale.result.half c.grid_of-scale.ensures.half off

pub is_blank_in-requires-clause-column : goal.is_blank_in-requires-clause-column
is_blank_in-requires-clause-column c =
    across_tree c.args.tree.now.level c.grid_of-scale.result.scale c.grid_of-scale.result.half c.in-Some.x c.grid_of-scale.ensures.some (omega arith) c.grid_of-scale.ensures.half
    c.in-Some.ensures.inside.1

pub is_blank_in-requires-clause-row : goal.is_blank_in-requires-clause-row
is_blank_in-requires-clause-row c =
    across_tree c.args.tree.now.level c.grid_of-scale.result.scale c.grid_of-scale.result.half c.in-Some-edge_distance.y c.grid_of-scale.ensures.some (omega arith) c.grid_of-scale.ensures.half
    c.in-Some-edge_distance.ensures.inside.1

pub returns : goal.returns
returns c =
    let f : FitsSigned w128 c.args.column = search rules in
    let g : FitsSigned w128 c.args.row = search rules in
    let x = simp (to_z-of_z, f) at c.in-Some.ensures.inside in
    let y = simp (to_z-of_z, g) at c.in-Some-edge_distance.ensures.inside in
    by_part c.args.store.now c.args.tree.now c.grid_of-scale.ensures.some c.args.scale c.grid_of-scale.result.scale c.args.column c.args.row c.grid_of-scale.ensures.scale
    c.grid_of-scale.result.half c.grid_of-scale.ensures.half c.in-Some.x c.in-Some-edge_distance.y x.0 y.0 c.is_blank_in.result c.is_blank_in.ensures
