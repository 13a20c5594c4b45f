use Rattle.std.proofs.Common.{inl, inr, subst, arith, pos, ◌+ℤ◌}
use Rattle.std.proofs.lemmas.Bool.{cases_eq}
use Rattle.std.proofs.lemmas.List.{drop_all}
use Rattle.std.proofs.lemmas.Option.{slice_get-get_or}
use Rattle.ca_plane.specs.Prelude.{cell}
use Rattle.ca_quad.specs.inner.Filled.{cells_from}
use Rattle.ca_quad.specs.inner.Rows.{HaveRowAt}
use Rattle.ca_quad.proofs.Blocks.{zeros_right}
use Rattle.ca_quad.proofs.Covers.{place_of}
use Rattle.ca_quad.proofs.RowPlaces.{rest_at}
use Rattle.ca_quad.proofs.store.block.block_states.Goals as goal

pub rows-init : goal.rows-init
rows-init c = (λ x y i j z. zeros_right c.args.cells.now c.args.at x y i j z, λ i x y held is_cell. inr held)

pub rows-preserved : goal.rows-preserved
rows-preserved c =
    let rows = c.args.rows.now in
    let k = c.rows.row-index in
    let at = slice_get-get_or rows k _ c.rows-test.true in
    let (zero, right) = c.rows.invariant in (
      λ x y i j z. c.put_row.ensures.kept x y i j (zero x y i j z),
      λ i x y held is_cell. elim (right i x y held is_cell) [
        | inl r ↦ inl (c.put_row.ensures.kept x y is_cell.low_x is_cell.low_y r)
        | inr h ↦ elim (subst (λ rs. HaveRowAt rs i) (rest_at rows k _ at) h) [ inl here ↦ inl (c.put_row.ensures.put i x y here is_cell) | inr rest ↦ inr rest ]
      ],
    )

pub returns : goal.returns
returns c = λ side small cover x y i j.
    let p = c.args.cells.now in
    let at = c.args.at in
    let rows = c.args.rows.now in
    let (zero, right) = c.rows.invariant in
    elim (cases_eq (cells_from (cell p) at x y) 0) [
      | inl z ↦ zero x y (omega arith) (omega arith) z
      | inr live ↦
          let (k, low, ex, ey) = place_of p (at.x +ℤ pos x) (at.y +ℤ pos y) live in
          elim (right k x y (cover.held k x y low i j ex ey) (record { low_x = omega arith; low_y = omega arith; is_x = ex; is_y = ey })) [
            | inl r ↦ r
            | inr h ↦ absurd (subst (λ rs. HaveRowAt rs k) (drop_all c.rows.row-index rows (omega (arith, c.rows-test.false))) h)
          ]
    ]
