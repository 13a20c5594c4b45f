use Rattle.std.proofs.Common.{◌+◌, List, sym, subst, arith}
use Rattle.ca_plane.specs.declared.{point.Point.Point, bit_plane.CellWord.CellWord}
use Rattle.ca_plane.specs.Prelude.{AddsRun}
use Rattle.ca_apgcode.specs.Prelude.{cell}
use Rattle.ca_import.specs.inner.Drawn.{IsDrawnTo}
use Rattle.ca_import.proofs.DrawnColumns.{draws_live, draws_dead, dead_cell, draws_column}
use Rattle.ca_import.proofs.code_cells.draw_column.Goals as goal
use Rattle.ca_import.proofs.code_cells.draw_column.Goals.{then-is_live+in_ok-add_run, else-is_live}

pub rows-preserved : goal.rows-preserved
rows-preserved c =
    let grid = c.args.grid.now in
    let x = c.args.x in
    let y = c.rows.y in
    let old = c.rows.cells in
    elim c.if-is_live.branch [
      | then-is_live+in_ok-add_run w ↦
          let new = w.add_run.new.self in
          subst (λ (q : List CellWord). IsDrawnTo (cell grid) x (y + 1) q) (sym w.cells-is)
          (draws_live (cell grid) x y old c.rows.invariant new (subst (λ (p : Point). AddsRun p 1 old new) w.place.ensures w.in_ok-add_run.ensures.ok) (c.is_live.ensures.0 w.if-is_live.true))
      | else-is_live w ↦
          subst (λ (q : List CellWord). IsDrawnTo (cell grid) x (y + 1) q) (sym w.cells-is)
          (draws_dead (cell grid) x y old c.rows.invariant (dead_cell grid x y c.is_live.result c.is_live.ensures w.if-is_live.false))
    ]

pub returns : goal.returns
returns c =
    draws_column c.args.grid.now c.width.ensures.grid c.rows.cells c.args.x c.rows.y (omega (arith, c.height-y-end.ensures.height, c.rows-test.false)) c.rows.invariant
