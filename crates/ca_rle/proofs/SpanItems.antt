-- The span of items, item by item, is the smallest box round their cells.
use Rattle.std.proofs.Common.{◌≡◌, ◌≢◌, ℕ, ◌+◌, ◌-◌, ◌<◌, ◌≤◌, ◌^◌, ℤ, pos, ◌+ℤ◌, ne_eqb, List, [], ◌∷◌, ◌++◌, Option, Some, None, sym, ap, subst, ◌∙◌, arith}
use Rattle.std.specs.List.{AllByRecursion}
use Rattle.std.proofs.lemmas.Int.{ints, clamps}
use Rattle.ca_plane.specs.declared.point.Point.{Point}
use Rattle.ca_plane.specs.Prelude.{nearest_u64, IsInRange, Picture}
use Rattle.ca_rle.specs.declared.{extent.Offset.Offset, extent.Span.Span, item.Item.Item}
use Rattle.ca_rle.specs.Prelude.{Run, tag_state, place_after, item_cells, picture_of_items}
use Rattle.ca_rle.specs.inner.BodyFaults.{IsItemAtFront}
use Rattle.ca_rle.specs.inner.Boxes.{AreBounds, IsSpanOf, IsSpanWith, bounds_at, box_at}
use Rattle.ca_rle.specs.inner.Extent.{IsOffsetOf}
use Rattle.ca_rle.proofs.DrawnItems.{offset_is}
use Rattle.ca_rle.proofs.PushedItems.{counts_low, picture_after-push}
use Rattle.ca_rle.proofs.Ranges.{all_parts, run_has_room}
use Rattle.ca_rle.proofs.ReadParts.{run_low}
use Rattle.ca_rle.proofs.RisingItems.{picture_is}
use Rattle.ca_rle.proofs.RunBoxes.{AreBoundsWith, IsBoxWithRun, cells_bounds}

-- a span with a run is a box with it
box_with : (corner place : Point) (at : Offset) (last : ℕ) (end : ℤ) (old : Option Span) (new : Span) → place.x ≡ corner.x +ℤ pos at.columns → place.y ≡ corner.y +ℤ pos at.rows → end ≡ corner.x +ℤ pos last → IsSpanWith at last old new
    → IsBoxWithRun place end (bounds_at corner old) (box_at corner new)
box_with corner place at last end None new column row right (l, t, r, b) = (omega (arith, ints, column, l), omega (arith, ints, row, t), omega (arith, ints, right, r), omega (arith, ints, row, b))
box_with corner place at last end (Some old) new column row right (l, t, r, b) =
    (omega (arith, ints, clamps, column, l), omega (arith, ints, clamps, row, t), omega (arith, ints, clamps, right, r), omega (arith, ints, clamps, row, b))

-- one more item
pub span_more : (bytes after more : List ℕ) (at : Offset) (items : List Item) (i : Item) (old new : Option Span) → Run bytes items after → IsOffsetOf items at → (item : IsItemAtFront after i more) → IsSpanOf items old
    → (tag_state i.tag ≡ 0 → new ≡ old) → (tag_state i.tag ≢ 0 → (span : Span) × (new ≡ Some span) × IsSpanWith at (nearest_u64 (at.columns + (i.count - 1))) old span) → IsSpanOf (items ++ item.0 ∷ []) new
span_more bytes after more at items i old new run offset (j, item, same) spans dead live = λ corner range.
    let p = picture_of_items corner items in
    let place = place_after corner items in
    let shown : picture_of_items corner (items ++ j ∷ []) ≡ p ++ item_cells corner items j = picture_after-push corner [] items j in
    let counts = all_parts (λ i. i.count ≤ 2 ^ 62) items (j ∷ []) range.counts in
    let cells = all_parts (λ e. IsInRange e.0) p (item_cells corner items j) (subst (λ q. AllByRecursion (λ e. IsInRange e.0) q) shown range.cells) in
    let some : 0 < j.count = (counts_low after (j ∷ []) more item).0 in
    let tag : i.tag ≡ j.tag = ap (λ (k : Item). k.tag) same in
    let count : i.count ≡ nearest_u64 j.count = ap (λ (k : Item). k.count) same in
    let before = spans corner (record { counts = counts.0; corner = range.corner; cells = cells.0 }) in
    let grown : AreBoundsWith place j (bounds_at corner old) (bounds_at corner new) = record {
      dead = λ z. ap (bounds_at corner) (dead (ap tag_state tag ∙ z));
      live = λ h.
          let room = run_has_room (tag_state j.tag) place j.count some (rw (ne_eqb (tag_state j.tag) 0 h) at cells.1) in
          let here = offset_is corner items at range.corner offset room.0 in
          let column = ap (λ (q : Point). q.x) here in
          let row = ap (λ (q : Point). q.y) here in
          let (span, is, with_run) = live (λ z. h (sym (ap tag_state tag) ∙ z)) in (
            box_at corner span,
            ap (bounds_at corner) is,
            box_with corner place at (nearest_u64 (at.columns + (i.count - 1))) (place.x +ℤ pos (j.count - 1)) old span (sym column) (sym row)
                (omega (arith, ints, column, count, counts.1.0, some, room.0.0, room.0.1, range.corner.0, range.corner.1)) with_run,
          );
    }
    in
    subst (λ (q : Picture). AreBounds q (bounds_at corner new)) (sym shown) (cells_bounds p place j (bounds_at corner old) (bounds_at corner new) (picture_is corner [] items (run_low bytes after items run)) before grown some)
