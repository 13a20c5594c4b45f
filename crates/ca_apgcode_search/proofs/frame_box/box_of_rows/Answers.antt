use Rattle.std.proofs.Common.{refl, ◌≡◌, ◌+◌, ◌-◌, length, arith}
use Rattle.ca_apgcode_search.proofs.RowBoxes.{found_box}
use Rattle.ca_apgcode_search.proofs.frame_box.box_of_rows.Goals as goal

pub returns : goal.returns
returns c = λ cells left top shows.
    let rows = c.args.rows.now in
    let first = c.first_row-first.result in
    let low = c.first_bit-low.result in
    let last = c.min-end.result in
    let n = c.columns.r - first in
    let moved = c.columns.invariant.moved in
    let end : first + n ≡ last = omega (arith, c.columns.invariant.from, c.columns-test.false, c.columns.auto.r-end, c.min-end.ensures, c.first_row-first.ensures.most, c.from.ensures) in
    let size : length rows ≡ 48 = omega (arith, c.told-rows) in
    found_box rows size c.fits-rows first low n
    c.first_row-first.ensures.before
    (λ r i low_r under. c.union.ensures r i low_r (c.first_bit-low.ensures.before i under))
    (λ r far near. c.if-not-are_blank_from.ensures refl r (omega (arith, end, far)) near)
    c.columns.columns.items moved c.from_columns.result c.from_columns.ensures.some cells left top shows
