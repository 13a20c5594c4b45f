use Rattle.ca_plane.specs.Prelude.{Puts}
use Rattle.ca_quad.specs.Prelude.{cell}
use Rattle.ca_draw.specs.Prelude.{drawing_row, repeated}
use Rattle.ca_draw.proofs.drawing.push_rows.Given as goal

-- the row follows the text, `counter` times
abbrev pub invariant-times : goal.invariant-times
invariant-times l = Puts l.fn.out.items l.out.items (repeated l.counter (drawing_row l.style (cell l.store l.tree) l.window l.row))
