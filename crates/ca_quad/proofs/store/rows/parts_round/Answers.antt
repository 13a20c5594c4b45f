use Rattle.std.proofs.Common.{sym, subst}
use Rattle.ca_quad.specs.inner.Rows.{IsPartOfRows, IsWest, IsEast, IsNorth, IsSouth}
use Rattle.ca_quad.proofs.Covers.{part_part}
use Rattle.ca_quad.proofs.store.rows.parts_round.Goals as goal

pub returns : goal.returns
returns c =
    let p = c.args.cells.now in
    let rows = c.args.rows.now in
    let at = c.args.at in
    let west = subst (IsPartOfRows p rows (IsWest at.x)) (sym c.deref.ensures.value) c.in_ok-west.ensures.west in
    let east = subst (IsPartOfRows p rows (IsEast at.x)) (sym c.deref-2.ensures.value) c.in_ok-west.ensures.east in
    record {
      nw = part_part p rows _ _ (IsWest at.x) (IsNorth at.y) west (c.in_ok-nw.ensures.north p west.are);
      ne = part_part p rows _ _ (IsEast at.x) (IsNorth at.y) east (c.in_ok-ne.ensures.north p east.are);
      sw = part_part p rows _ _ (IsWest at.x) (IsSouth at.y) west (c.in_ok-nw.ensures.south p west.are);
      se = part_part p rows _ _ (IsEast at.x) (IsSouth at.y) east (c.in_ok-ne.ensures.south p east.are);
    }
