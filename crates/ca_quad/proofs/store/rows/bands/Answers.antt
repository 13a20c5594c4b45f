use Rattle.std.proofs.Common.{ap, arith}
use Rattle.std.proofs.lemmas.Option.{slice_get-get_or}
use Rattle.ca_quad.specs.inner.Rows.{IsNorth, IsSouth}
use Rattle.ca_quad.proofs.RowPlaces.{part_last, north_next, south_next}
use Rattle.ca_quad.proofs.store.rows.bands.Goals as goal
use Rattle.ca_quad.proofs.store.rows.bands.Goals.{then-is_north+in_ok-push, else-is_north+in_ok-push-2}

pub rows-preserved : goal.rows-preserved
rows-preserved c = λ p are.
    let rows = c.args.rows.now in
    let k = c.rows.row-index in
    let at = slice_get-get_or rows k _ c.rows-test.true in
    let (north, south) = c.rows.invariant p are in
    elim c.if-is_north.branch [
      | then-is_north+in_ok-push w ↦
          north_next p rows are k _ at c.args.at.y c.rows.north.items c.rows.south.items _ _ _ north south (c.is_north.ensures.yes w.if-is_north.true)
          (ap (λ v. v.items) w.north-is) (ap (λ v. v.items) w.south-is) w.in_ok-push.ensures.items
      | else-is_north+in_ok-push-2 w ↦
          south_next p rows are k _ at c.args.at.y c.rows.north.items c.rows.south.items _ _ _ north south (c.is_north.ensures.no w.if-is_north.false)
          (ap (λ v. v.items) w.north-is) (ap (λ v. v.items) w.south-is) w.in_ok-push-2.ensures.items
    ]

pub returns-clause-north : goal.returns-clause-north
returns-clause-north c = λ p are. part_last p c.args.rows.now (IsNorth c.args.at.y) c.rows.north.items c.rows.row-index (omega (arith, c.rows-test.false)) (c.rows.invariant p are).0

pub returns-clause-south : goal.returns-clause-south
returns-clause-south c = λ p are. part_last p c.args.rows.now (IsSouth c.args.at.y) c.rows.south.items c.rows.row-index (omega (arith, c.rows-test.false)) (c.rows.invariant p are).1
