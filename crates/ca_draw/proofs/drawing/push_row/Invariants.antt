use Rattle.std.proofs.Common.{[], ◌∷◌, pos, ◌+ℤ◌}
use Rattle.ca_plane.specs.Prelude.{Puts}
use Rattle.ca_quad.specs.Prelude.{cell}
use Rattle.ca_draw.specs.Prelude.{mark_of, byte_of_mark, repeated, texts_below}
use Rattle.ca_draw.proofs.drawing.push_row.Given as goal

-- the bytes of the columns so far follow the text
abbrev pub invariant-columns : goal.invariant-columns
invariant-columns l =
    Puts l.fn.out.items l.out.items
    (texts_below l.column (λ column. repeated l.style.zoom (byte_of_mark l.style (mark_of (cell l.store l.tree) l.style.states l.window.scale (l.window.column +ℤ pos column) (l.window.row +ℤ pos l.row)) ∷ [])))
