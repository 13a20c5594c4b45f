-- The items of a body measured one after another.
use Rattle.std.proofs.Common.{◌≡◌, ℕ, ◌+◌, max, Bool, true, false, List, [], ◌∷◌, ◌++◌, ◌==◌, refl, sym, ap, subst, ◌∙◌, arith}
use Rattle.std.specs.Prelude.{if◌then◌else◌}
use Rattle.ca_rle.specs.declared.{item.Item.Item, extent.Extent.Extent, extent.Offset.Offset}
use Rattle.ca_rle.specs.Prelude.{Run, ends_row, tag_state, row_count, columns_of}
use Rattle.ca_rle.specs.inner.BodyFaults.{with_capped_count, IsItemAtFront}
use Rattle.ca_plane.specs.Prelude.{nearest_u64}
use Rattle.ca_rle.specs.inner.Extent.{live_count_of_item, columns_to, rows_to, IsOffsetOf, IsItemsExtent}
use Rattle.ca_rle.proofs.PushedItems.{row_count-push, columns_of-push, longest_of-push, greatest_state-push, greatest_of-push, live_count_of_items-push, Run-push}

-- where the item after i begins
pub record IsNextOffset (i : Item) (at next : Offset) : Type 0 where
  pub rows : next.rows ≡ nearest_u64 (at.rows + (if ends_row i.tag then i.count else 0))
  pub columns : next.columns ≡ (if ends_row i.tag then 0 else nearest_u64 (at.columns + i.count))

-- the extent grown by i, which begins at an offset
pub record IsGrownBy (i : Item) (at : Offset) (old new : Extent) : Type 0 where
  pub longest : new.longest ≡ max old.longest i.count
  pub right : new.reach.columns ≡ max old.reach.columns (if tag_state i.tag == 0 then 0 else nearest_u64 (at.columns + i.count))
  pub bottom : new.reach.rows ≡ max old.reach.rows (if tag_state i.tag == 0 then 0 else nearest_u64 (at.rows + 1))
  pub cells : new.cells ≡ nearest_u64 (old.cells + live_count_of_item i)
  pub greatest : new.greatest ≡ max old.greatest (tag_state i.tag)

-- sums of kept numbers, by a test or not
kept_sum : (t : Bool) (a b x y n : ℕ) → n ≡ nearest_u64 (x + (if t then y else 0)) → x ≡ nearest_u64 a → y ≡ nearest_u64 b → n ≡ nearest_u64 (a + (if t then b else 0))
kept_sum true a b x y n e f g = omega (arith, e, f, g)
kept_sum false a b x y n e f g = omega (arith, e, f, g)

kept_none_or_sum : (t : Bool) (a b x y n : ℕ) → n ≡ (if t then 0 else nearest_u64 (x + y)) → x ≡ nearest_u64 a → y ≡ nearest_u64 b → n ≡ nearest_u64 (if t then 0 else a + b)
kept_none_or_sum true a b x y n e f g = omega (arith, e)
kept_none_or_sum false a b x y n e f g = omega (arith, e, f, g)

-- the offset after one more item
pub offset_more : (items : List Item) (j : Item) (at next : Offset) → IsOffsetOf items at → IsNextOffset (with_capped_count j) at next → IsOffsetOf (items ++ j ∷ []) next
offset_more items j at next o n = record {
  rows = kept_sum (ends_row j.tag) (row_count items) j.count at.rows (nearest_u64 j.count) next.rows n.rows o.rows refl ∙ ap nearest_u64 (sym (row_count-push items j));
  columns = kept_none_or_sum (ends_row j.tag) (columns_of items) j.count at.columns (nearest_u64 j.count) next.columns n.columns o.columns refl ∙ ap nearest_u64 (sym (columns_of-push items j));
}

kept_if : (t : Bool) (a b x y : ℕ) → x ≡ nearest_u64 a → y ≡ nearest_u64 b → (if t then 0 else nearest_u64 (x + y)) ≡ nearest_u64 (if t then 0 else a + b)
kept_if true a b x y f g = refl
kept_if false a b x y f g = omega (arith, f, g)

kept_live : (t : Bool) (n : ℕ) → (if t then 0 else nearest_u64 n) ≡ nearest_u64 (if t then 0 else n)
kept_live true n = refl
kept_live false n = refl

-- the extent with one more item
pub extent_more : (items : List Item) (j : Item) (at : Offset) (old new : Extent) → IsOffsetOf items at → IsItemsExtent items old → IsGrownBy (with_capped_count j) at old new → IsItemsExtent (items ++ j ∷ []) new
extent_more items j at old new o e g = record {
  longest = omega (arith, g.longest, e.longest, longest_of-push items j);
  right =
      let here = kept_if (tag_state j.tag == 0) (columns_of items) j.count at.columns (nearest_u64 j.count) o.columns refl in
      let push = greatest_of-push columns_to [] items j in
      omega (arith, g.right, e.right, here, push);
  bottom =
      let here = kept_if (tag_state j.tag == 0) (row_count items) 1 at.rows 1 o.rows refl in
      let push = greatest_of-push rows_to [] items j in
      omega (arith, g.bottom, e.bottom, here, push);
  cells =
      let here = kept_live (tag_state j.tag == 0) j.count in
      let push = live_count_of_items-push items j in
      omega (arith, g.cells, e.cells, here, push);
  greatest = omega (arith, g.greatest, e.greatest, greatest_state-push items j);
}

-- these items were read and measured, and the next begins at an offset
pub record IsMeasured (bytes after : List ℕ) (at : Offset) (extent : Extent) (items : List Item) : Type 0 where
  pub run : Run bytes items after
  pub offset : IsOffsetOf items at
  pub reach : IsItemsExtent items extent

-- one more item
pub measured_more : (bytes after more : List ℕ) (at next : Offset) (old new : Extent) (items : List Item) (i : Item) → IsMeasured bytes after at old items → (item : IsItemAtFront after i more) → IsNextOffset i at next → IsGrownBy i at old new
    → IsMeasured bytes more next new (items ++ item.0 ∷ [])
measured_more bytes after more at next old new items i m (j, item, same) n g = record {
  run = Run-push bytes items j after more m.run item;
  offset = offset_more items j at next m.offset (subst (λ i. IsNextOffset i at next) same n);
  reach = extent_more items j at old new m.offset m.reach (subst (λ i. IsGrownBy i at old new) same g);
}
