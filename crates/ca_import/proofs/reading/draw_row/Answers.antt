use Rattle.std.proofs.Common.{◌≡◌, ◌∷◌, sym, subst, ◌∙◌}
use Rattle.ca_plane.specs.declared.{point.Point.Point, bit_plane.CellWord.CellWord}
use Rattle.std.specs.Prelude.{List}
use Rattle.ca_import.specs.Prelude.{east}
use Rattle.ca_import.proofs.DrawnRows.{IsDrawn, drawn_live, drawn_dead}
use Rattle.ca_import.proofs.reading.draw_row.Goals as goal
use Rattle.ca_import.proofs.reading.draw_row.Goals.{then-is_live_byte+in_ok-add_run, else-is_live_byte}

pub cells-preserved : goal.cells-preserved
cells-preserved c =
    let first = c.args.first in
    let cells = c.args.cells.now in
    let old = c.args.plane.now in
    let at = c.cells.at in
    let left = c.cells.rest.now in
    let cell = c.in-Some.cell.now in
    let later = c.in-Some.later.now in
    let split = c.in-Some.ensures.cases.0 in
    let cell_is = c.in-Some.cell-is in
    let later_is = c.in-Some.later-is in
    let is : left ≡ cell ∷ later = cc in
    subst (λ (p : Point). IsDrawn first cells old p later c.if-is_live_byte.plane) (sym c.east-at.ensures)
    (elim c.if-is_live_byte.branch [
      | then-is_live_byte+in_ok-add_run w ↦
          subst (λ (q : List CellWord). IsDrawn first cells old (east at) later q) (sym w.plane-is)
          (drawn_live first cells old at left c.cells.plane c.cells.invariant cell later w.add_run.new.self is (sym c.is_live_byte.ensures ∙ w.if-is_live_byte.true) w.in_ok-add_run.ensures.ok)
      | else-is_live_byte w ↦
          subst (λ (q : List CellWord). IsDrawn first cells old (east at) later q) (sym w.plane-is)
          (drawn_dead first cells old at left c.cells.plane c.cells.invariant cell later is (sym c.is_live_byte.ensures ∙ w.if-is_live_byte.false))
    ])
