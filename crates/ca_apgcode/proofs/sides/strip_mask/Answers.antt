use Rattle.std.proofs.Common.{◌*◌, ◌-◌, ◌<◌, sym, subst}
use Rattle.ca_apgcode.specs.Prelude.{GridCells, cell}
use Rattle.ca_apgcode.specs.inner.Sides.{IsSeenFrom, seen_height, AreLiveBefore, IsStripMask}
use Rattle.ca_apgcode.proofs.SeenBoxes.{north_mask, west_mask, south_mask, east_mask}
use Rattle.ca_apgcode.proofs.sides.strip_mask.Goals as goal

pub returns-in-North-clause-mask : goal.returns-in-North-clause-mask
returns-in-North-clause-mask c = λ seen is.
    let grid = c.args.grid.now in
    let same = subst (λ side. IsSeenFrom side grid seen) c.in-North.is is in
    subst (λ (g : GridCells). IsStripMask (cell g) (5 * c.args.strip) c.live_columns.result) (sym same) (north_mask grid c.args.strip c.live_columns.result c.live_columns.ensures.live)

pub returns-in-South-clause-mask : goal.returns-in-South-clause-mask
returns-in-South-clause-mask c = λ seen is.
    let grid = c.args.grid.now in
    let mask = c.live_columns-in-South.result in
    south_mask grid c.args.strip mask seen (subst (λ side. IsSeenFrom side grid seen) c.in-South.is is) (subst (λ side. 5 * c.args.strip < seen_height side grid) c.in-South.is c.requires.within)
    (subst (λ h. AreLiveBefore (cell grid) (h - 5 * c.args.strip) mask) c.height.ensures.height c.live_columns-in-South.ensures.live)

pub returns-in-West-clause-mask : goal.returns-in-West-clause-mask
returns-in-West-clause-mask c = λ seen is.
    let grid = c.args.grid.now in
    west_mask grid c.args.strip c.live_rows.result seen (subst (λ side. IsSeenFrom side grid seen) c.in-West.is is) c.live_rows.ensures.live

pub returns-in-East-clause-mask : goal.returns-in-East-clause-mask
returns-in-East-clause-mask c = λ seen is.
    let grid = c.args.grid.now in
    let mask = c.live_rows-in-East.result in
    let from_east = subst (λ side. IsSeenFrom side grid seen) c.in-East.is is in
    east_mask grid c.args.strip mask from_east.0 seen from_east.1 from_east.2 (subst (λ side. 5 * c.args.strip < seen_height side grid) c.in-East.is c.requires.within)
    (subst (λ w. AreLiveBefore (λ y x. cell grid x y) (w - 5 * c.args.strip) mask) c.width.ensures.width c.live_rows-in-East.ensures.live)
