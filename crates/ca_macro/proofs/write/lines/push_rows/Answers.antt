use Rattle.std.proofs.Common.{ℕ, ◌++◌, ◌∷◌, [], map, subst, arith}
use Rattle.ca_plane.specs.Prelude.{Puts}
use Rattle.ca_macro.specs.Prelude.{leaf_mark}
use Rattle.ca_macro.specs.inner.Written.{row_marks}
use Rattle.ca_macro.proofs.Lines.{puts_all, rows_as}
use Rattle.ca_macro.proofs.write.lines.push_rows.Goals as goal

pub returns : goal.returns
returns c =
    subst (Puts c.args.out.now.items c.rows.out.items) (rows_as c.args.rows.now)
    (puts_all (λ (row : ℕ). map leaf_mark (row_marks 8 row) ++ 36 ∷ []) c.args.rows.now c.rows.row-index c.args.out.now.items c.rows.out.items (omega arith) c.rows.invariant)
