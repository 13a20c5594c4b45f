use Rattle.std.proofs.Common.{inl, inr, subst, arith}
use Rattle.std.proofs.lemmas.Bool.{cases_eq}
use Rattle.ca_quad.specs.inner.Block.{IsCell}
use Rattle.ca_quad.specs.inner.Rows.{point_at}
use Rattle.ca_quad.proofs.Blocks.{put_right, put_keeps}
use Rattle.ca_quad.proofs.store.block.put_row.Goals as goal

pub places-init : goal.places-init
places-init c = (λ i x y low high cell. absurd (omega arith), λ x y i j h. h)

pub places-preserved : goal.places-preserved
places-preserved c =
    let p = c.args.cells.now in
    let k = c.places.place in
    let old = c.places.states in
    let new = c.put_cell.new.states in
    let right = put_right p c.requires.sparse c.args.at k (omega arith) _ old new c.put_cell.ensures in
    let keeps = put_keeps p c.requires.sparse c.args.at k (omega arith) _ old new c.put_cell.ensures in
    let (put, kept) = c.places.invariant in (
      λ i x y low high cell. elim (cases_eq i k) [
        | inl e ↦ right x y (subst (λ n. IsCell c.args.at (point_at p n) x y) e cell)
        | inr other ↦ keeps x y cell.low_x cell.low_y (put i x y low (omega arith) cell)
      ],
      λ x y i j h. keeps x y i j (kept x y i j h),
    )

pub returns-clause-put : goal.returns-clause-put
returns-clause-put c = λ i x y h cell. c.places.invariant.0 i x y h.from (omega (arith, h.below)) cell

pub returns-clause-kept : goal.returns-clause-kept
returns-clause-kept c = λ x y i j h. c.places.invariant.1 x y i j h
