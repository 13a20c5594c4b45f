use Rattle.std.proofs.Common.{◌+◌, Some, sym, subst, arith}
use Rattle.ca_plane.specs.declared.point.Point.{Point}
use Rattle.ca_import.specs.Prelude.{Row}
use Rattle.ca_import.specs.inner.Reading.{Takes}
use Rattle.ca_import.proofs.Taken.{row_taken}
use Rattle.ca_import.proofs.reading.Reading.add_row.Goals as goal

pub returns-clause-takes : goal.returns-clause-takes
returns-clause-takes c =
    let at = c.in-Some.at in
    let cells = c.args.cells.now in
    let old = c.args.self.now in
    let count = c.live_count-count.result in
    let few = c.if-count-self.false in
    let most = c.requires.few in
    subst (λ (p : Point). Takes (Row cells) old (record { cells = c.draw_row.new.plane; place = Some p; count = old.count + count; rule = old.rule })) (sym c.south.ensures)
    (row_taken at cells old c.draw_row.new.plane count c.in-Some.is c.requires (c.is_row_in_range.ensures.0 c.if-not-is_row_in_range.false)
    c.live_count-count.ensures (omega (arith, few, most)) c.in_ok-draw_row.ensures)
