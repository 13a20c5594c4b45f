use Rattle.std.proofs.Common.{◌≡◌, pos, ◌+ℤ◌, ap, ◌∙◌, arith}
use Rattle.std.proofs.lemmas.Bool.Decides.{nat_tests}
use Rattle.ca_quad.proofs.DrawnSquares.{cells_can, cells_agree, upper_live, lower_live}
use Rattle.ca_quad.proofs.PaintedCells.{paints_last}
use Rattle.ca_quad.proofs.store.Store.draw_two.Goals as goal

pub draw_cell-requires : goal.draw_cell-requires
draw_cell-requires c =
    let is = c.requires.ready.1 in
    record { near = (cells_can c.args.self.now c.args.square.id c.in-Four.nw c.in-Four.ne c.in-Four.sw c.in-Four.se is.is_square.before c.in-Four.ensures.shows c.args.square.at c.part_corners-corners.result c.part_corners-corners.ensures is.can).0 }

pub draw_cell-requires-then-row-eq0 : goal.draw_cell-requires-then-row-eq0
draw_cell-requires-then-row-eq0 c =
    let is = c.requires.ready.1 in
    record { near = (cells_can c.args.self.now c.args.square.id c.in-Four.nw c.in-Four.ne c.in-Four.sw c.in-Four.se is.is_square.before c.in-Four.ensures.shows c.args.square.at c.part_corners-corners.result c.part_corners-corners.ensures is.can).1 }

pub draw_cell-requires-in-Four : goal.draw_cell-requires-in-Four
draw_cell-requires-in-Four c =
    let is = c.requires.ready.1 in
    record { near = (cells_can c.args.self.now c.args.square.id c.in-Four.nw c.in-Four.ne c.in-Four.sw c.in-Four.se is.is_square.before c.in-Four.ensures.shows c.args.square.at c.part_corners-corners.result c.part_corners-corners.ensures is.can).2 }

pub draw_cell-requires-in-Four-2 : goal.draw_cell-requires-in-Four-2
draw_cell-requires-in-Four-2 c =
    let is = c.requires.ready.1 in
    record { near = (cells_can c.args.self.now c.args.square.id c.in-Four.nw c.in-Four.ne c.in-Four.sw c.in-Four.se is.is_square.before c.in-Four.ensures.shows c.args.square.at c.part_corners-corners.result c.part_corners-corners.ensures is.can).3 }

pub returns-then-row-eq0 : goal.returns-then-row-eq0
returns-then-row-eq0 c = λ all is.
    let at = c.args.square.at in
    let zero : c.args.row ≡ 0 = grind (arith, nat_tests) in
    let agree = cells_agree c.args.self.now c.args.square.id c.in-Four.nw c.in-Four.ne c.in-Four.sw c.in-Four.se is.is_square.before c.in-Four.ensures.shows at c.part_corners-corners.result c.part_corners-corners.ensures all is.agrees in
    paints_last all c.draw_cell-then-row-eq0.result c.args.plane.now c.draw_cell.new.plane c.draw_cell-then-row-eq0.new.plane _ _ _ (c.in_ok-draw_cell-in-Four.ensures all agree.0) (c.draw_cell-then-row-eq0.ensures all agree.1)
    (λ x y h. upper_live c.args.self.now c.args.square.id c.in-Four.nw c.in-Four.ne c.in-Four.sw c.in-Four.se is.is_square.before c.in-Four.ensures.shows at c.part_corners-corners.result c.part_corners-corners.ensures x y h.0 (h.1 ∙ ap (λ n. at.y +ℤ pos n) zero))

pub returns : goal.returns
returns c = λ all is.
    let at = c.args.square.at in
    let one : c.args.row ≡ 1 = grind (arith, nat_tests, c.requires.row) in
    let agree = cells_agree c.args.self.now c.args.square.id c.in-Four.nw c.in-Four.ne c.in-Four.sw c.in-Four.se is.is_square.before c.in-Four.ensures.shows at c.part_corners-corners.result c.part_corners-corners.ensures all is.agrees in
    paints_last all c.draw_cell-in-Four-2.result c.args.plane.now c.draw_cell-in-Four.new.plane c.draw_cell-in-Four-2.new.plane _ _ _ (c.in_ok-draw_cell-in-Four-2.ensures all agree.2) (c.draw_cell-in-Four-2.ensures all agree.3)
    (λ x y h. lower_live c.args.self.now c.args.square.id c.in-Four.nw c.in-Four.ne c.in-Four.sw c.in-Four.se is.is_square.before c.in-Four.ensures.shows at c.part_corners-corners.result c.part_corners-corners.ensures x y h.0 (h.1 ∙ ap (λ n. at.y +ℤ pos n) one))
