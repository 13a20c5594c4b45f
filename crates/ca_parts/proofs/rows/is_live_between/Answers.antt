use Rattle.std.proofs.Common.{sym, ◌∙◌, arith}
use Rattle.std.specs.Int.{w128}
use Rattle.std.proofs.lemmas.Int.{to_z-of_z}
use Rattle.ca_parts.proofs.RowOrder.{live_between, dead_between, dead_beyond}
use Rattle.ca_parts.proofs.rows.is_live_between.Goals as goal

pub returns-then-place-cells-clause-dead : goal.returns-then-place-cells-clause-dead
returns-then-place-cells-clause-dead c = λ _.
    let first = simp (to_z-of_z w128 c.args.west c.ranges.west, to_z-of_z w128 c.args.row c.ranges.row) at c.first_from-place.ensures in
    dead_beyond c.args.cells.now c.args.west c.args.east c.args.row c.first_from-place.result c.requires first (omega arith)

pub returns-clause-live : goal.returns-clause-live
returns-clause-live c = λ yes.
    let first = simp (to_z-of_z w128 c.args.west c.ranges.west, to_z-of_z w128 c.args.row c.ranges.row) at c.first_from-place.ensures in
    let test = simp (to_z-of_z w128 c.args.east c.ranges.east, to_z-of_z w128 c.args.row c.ranges.row) at c.is_in_row.ensures in
    live_between c.args.cells.now c.args.west c.args.east c.args.row c.first_from-place.result _ c.requires first (omega arith) (sym test ∙ yes)

pub returns-clause-dead : goal.returns-clause-dead
returns-clause-dead c = λ no.
    let first = simp (to_z-of_z w128 c.args.west c.ranges.west, to_z-of_z w128 c.args.row c.ranges.row) at c.first_from-place.ensures in
    let test = simp (to_z-of_z w128 c.args.east c.ranges.east, to_z-of_z w128 c.args.row c.ranges.row) at c.is_in_row.ensures in
    dead_between c.args.cells.now c.args.west c.args.east c.args.row c.first_from-place.result _ c.requires first (λ _. sym test ∙ no)
