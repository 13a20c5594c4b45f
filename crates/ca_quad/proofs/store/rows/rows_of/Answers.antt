use Rattle.std.proofs.Common.{ℕ, ◌<◌, inl, inr, arith}
use Rattle.ca_quad.specs.inner.Rows.{HaveRowAt}
use Rattle.ca_plane.proofs.Numbers.{below_or_not}
use Rattle.ca_quad.proofs.RowPlaces.{HaveRowAt-push, AreRows-push}
use Rattle.ca_quad.proofs.store.rows.rows_of.Goals as goal

pub rows-preserved : goal.rows-preserved
rows-preserved c =
    let (are, range, held) = c.rows.invariant in
    let row = c.row_from-row.result in
    let is = c.row_from-row.ensures.row in
    let more = HaveRowAt-push c.rows.rows.items c.push.new.self.items row c.in_ok-push.ensures.items in
    let all : (i : ℕ) → i < row.end → HaveRowAt c.push.new.self.items i = λ i h.
    elim (below_or_not i c.rows.next) [ inl g ↦ more i (inl (held i g)) | inr g ↦ more i (inr (record { from = omega (arith, c.row_from-row.ensures.first); below = h })) ] in
    (AreRows-push c.rows.rows.items c.push.new.self.items row c.in_ok-push.ensures.items c.args.cells.now are is, is.range, all)
