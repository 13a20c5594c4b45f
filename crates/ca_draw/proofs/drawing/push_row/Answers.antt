use Rattle.std.proofs.Common.{[], ◌∷◌, ap, arith}
use Rattle.std.proofs.lemmas.Result.{on_ok_weaker}
use Rattle.ca_plane.specs.Prelude.{Puts}
use Rattle.ca_quad.specs.Prelude.{cell}
use Rattle.ca_draw.specs.Prelude.{drawing_row, repeated, row_end}
use Rattle.ca_draw.proofs.Rows.{texts_more, texts_all}
use Rattle.ca_draw.proofs.drawing.push_row.Goals as goal

pub columns-preserved : goal.columns-preserved
columns-preserved c = texts_more c.args.out.now.items c.columns.out.items c.push_times.new.out.items (repeated c.args.style.zoom (c.byte_at-byte.result ∷ [])) c.columns.column _ c.columns.invariant c.in_ok-push_times.ensures (ap (λ b. repeated c.args.style.zoom (b ∷ [])) c.byte_at-byte.ensures)

pub returns : goal.returns
returns c =
    let start = c.args.out.now.items in
    let now = c.columns.out.items in
    let new = c.push_end.new.out.items in
    on_ok_weaker {P = Puts now new (row_end c.args.style.format)} {Q = Puts start new (drawing_row c.args.style (cell c.args.store.now c.args.tree.now) c.args.window c.args.row)} c.push_end.result
    (λ p. texts_all start now new (row_end c.args.style.format) c.columns.column c.args.window.width _ (omega arith) (omega arith) c.columns.invariant p) c.push_end.ensures
