use Rattle.std.proofs.Common.{ℕ, ◌++◌, ◌∷◌, [], map, take}
use Rattle.std.specs.List.{flat_map}
use Rattle.ca_plane.specs.Prelude.{Puts}
use Rattle.ca_macro.specs.Prelude.{leaf_mark}
use Rattle.ca_macro.specs.inner.Written.{row_marks}
use Rattle.ca_macro.proofs.write.lines.push_rows.Given as goal

-- the first rows follow the text
abbrev pub invariant-rows : goal.invariant-rows
invariant-rows l = Puts l.fn.out.items l.out.items (flat_map (λ (row : ℕ). map leaf_mark (row_marks 8 row) ++ 36 ∷ []) (take l.row-index l.rows))
