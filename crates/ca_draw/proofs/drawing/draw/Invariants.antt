use Rattle.std.proofs.Common.{◌≡◌, ◌*◌, ◌++◌}
use Rattle.ca_quad.specs.Prelude.{cell}
use Rattle.ca_draw.specs.Prelude.{drawing_front, drawing_row, repeated, texts_below}
use Rattle.ca_draw.proofs.drawing.draw.Given as goal

-- the rows so far follow what stands before them
abbrev pub invariant-rows : goal.invariant-rows
invariant-rows l =
    l.out.items ≡ drawing_front l.style.format (l.style.zoom * l.window.width) (l.style.zoom * l.window.height)
    ++ texts_below l.row (λ row. repeated l.style.zoom (drawing_row l.style (cell l.store l.tree) l.window row))
