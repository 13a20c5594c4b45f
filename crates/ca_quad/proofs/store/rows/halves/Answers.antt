use Rattle.std.proofs.Common.{inl, inr, refl, arith}
use Rattle.std.proofs.lemmas.Option.{slice_get-get_or}
use Rattle.ca_quad.specs.inner.Rows.{IsPictureRow, IsWest, IsEast}
use Rattle.ca_quad.proofs.RowPlaces.{all_at, row_cut, part_last, part_next}
use Rattle.ca_quad.proofs.store.rows.halves.Goals as goal

pub rows-preserved : goal.rows-preserved
rows-preserved c =
    let p = c.args.cells.now in
    let rows = c.args.rows.now in
    let k = c.rows.row-index in
    let at = slice_get-get_or rows k _ c.rows-test.true in
    let is = all_at (IsPictureRow p) rows k _ at c.requires.rows in
    let cut = c.split-place.ensures in
    let (west, east) = c.rows.invariant in (
      part_next p rows (IsWest c.args.at.x) c.rows.west.items c.push_row.new.rows.items k _ at west
          (c.in_ok-push_row.ensures.rows p west.are (row_cut p c.requires.sparse _ _ is refl (omega arith) cut.least cut.most))
          (λ i h. c.in_ok-push_row.ensures.holds i (inl h))
          (λ i h t. c.in_ok-push_row.ensures.holds i (inr (record { from = h.from; below = cut.west i h t }))),
      part_next p rows (IsEast c.args.at.x) c.rows.east.items c.push_row-in-rows.new.rows.items k _ at east
          (c.in_ok-push_row-2.ensures.rows p east.are (row_cut p c.requires.sparse _ _ is refl cut.least cut.most (omega arith)))
          (λ i h. c.in_ok-push_row-2.ensures.holds i (inl h))
          (λ i h t. c.in_ok-push_row-2.ensures.holds i (inr (record { from = cut.east i h t; below = h.below }))),
    )

pub returns-clause-west : goal.returns-clause-west
returns-clause-west c = part_last c.args.cells.now c.args.rows.now (IsWest c.args.at.x) c.rows.west.items c.rows.row-index (omega (arith, c.rows-test.false)) c.rows.invariant.0

pub returns-clause-east : goal.returns-clause-east
returns-clause-east c = part_last c.args.cells.now c.args.rows.now (IsEast c.args.at.x) c.rows.east.items c.rows.row-index (omega (arith, c.rows-test.false)) c.rows.invariant.1
