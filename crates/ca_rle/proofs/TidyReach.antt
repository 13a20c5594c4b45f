-- How far a tidy text reaches: its corner, its size and its counts, by how far the live cells are from the origin.
use Rattle.std.proofs.Common.{◌≡◌, ◌≢◌, ℕ, ◌+◌, ◌<◌, ◌≤◌, ◌==◌, ℤ, pos, neg_ℤ, ◌≤ℤ◌, inl, inr, List, [], ◌∷◌, sym, ap, subst, ◌∙◌, arith}
use Rattle.std.specs.List.{AllByRecursion}
use Rattle.std.proofs.lemmas.Bool.{cases_Bool, eqb-false}
use Rattle.std.proofs.lemmas.Int.{ints}
use Rattle.ca_plane.specs.declared.point.Point.{Point}
use Rattle.ca_plane.specs.Prelude.{Picture, cell, IsSame}
use Rattle.ca_rle.specs.declared.item.{Item.Item, Tag.Tag}
use Rattle.ca_rle.specs.declared.item.Tag.TheVariants.{Cell, RowEnd}
use Rattle.ca_rle.specs.Prelude.{tag_state, picture_of_items, AreTidy, IsFrame}
use Rattle.ca_rle.proofs.CellRuns.{all_run}
use Rattle.ca_plane.proofs.Decimals.{IsNear}
use Rattle.ca_rle.proofs.TidyCells.{live_after, cells_at, next, drawn, picture_drawn, tidy_counts, tidy_tail, reach}

-- each live cell is at most `far` away from the origin, both ways
abbrev pub AreNear : ℕ → Picture → Type 0
AreNear far cells = (x y : ℤ) → cell cells x y ≢ 0 → IsNear far x × IsNear far y

-- ---- the frame

pub record IsFrameNear (far : ℕ) (corner : Point) (width height : ℕ) : Type 0 where
  pub x : IsNear far corner.x
  pub y : IsNear far corner.y
  pub wide : width ≤ far + far + 1
  pub high : height ≤ far + far + 1

pub frame_near : (far : ℕ) (cells : Picture) (corner : Point) (width height : ℕ) → AreNear far cells → IsFrame cells corner width height → IsFrameNear far corner width height
frame_near far cells corner width height near (inl (dead, at, w, h)) = record {
  x = let z : corner.x ≡ pos 0 = ap (λ p. p.x) at in (omega (arith, ints), omega (arith, ints));
  y = let z : corner.y ≡ pos 0 = ap (λ p. p.y) at in (omega (arith, ints), omega (arith, ints));
  wide = omega arith;
  high = omega arith;
}
frame_near far cells corner width height near (inr (box, least, at, w, h)) =
    let left = near box.x0 least.left.0 least.left.1 in
    let right = near box.x1 least.right.0 least.right.1 in
    let top = near least.top.0 box.y0 least.top.1 in
    let bottom = near least.bottom.0 box.y1 least.bottom.1 in
    record {
      x = subst (λ p. IsNear far p.x) (sym at) left.0;
      y = subst (λ p. IsNear far p.y) (sym at) top.1;
      wide = omega (arith, ints, w, left.0.0, right.0.1);
      high = omega (arith, ints, h, top.1.0, bottom.1.1);
    }

-- ---- the counts

-- an item lists no dead cells
pub live_states : (at : Point) (i : Item) → AllByRecursion (λ e. e.1 ≢ 0) (cells_at at i)
live_states at i =
    elim (cases_Bool (tag_state i.tag == 0)) [
      | inl e ↦ rw e tt
      | inr e ↦ let some = eqb-false (tag_state i.tag) 0 e in rw e (all_run (λ e. e.1 ≢ 0) _ 0 i.count (λ k l. some))
    ]

-- the columns and rows from which items go on, and those where their live cells end
record IsBetween (far : ℕ) (left : ℤ) (at : Point) (cells : Picture) : Type 0 where
  first : IsNear far left
  column : left ≤ℤ at.x
  row : neg_ℤ (pos far) ≤ℤ at.y
  near : AreNear far cells

next_column : (left : ℤ) (at : Point) (n : ℕ) (t : Tag) → left ≤ℤ at.x → left ≤ℤ (next left at (record { count = n; tag = t })).x
next_column left at n (Cell s) h = omega (arith, ints)
next_column left at n RowEnd h = omega (arith, ints)

next_row : (low left : ℤ) (at : Point) (n : ℕ) (t : Tag) → low ≤ℤ at.y → low ≤ℤ (next left at (record { count = n; tag = t })).y
next_row low left at n (Cell s) h = h
next_row low left at n RowEnd h = omega (arith, ints)

between_next : (far : ℕ) (left : ℤ) (at : Point) (i : Item) (is : List Item) → IsBetween far left at (drawn left at (i ∷ is)) → IsBetween far left (next left at i) (drawn left (next left at i) is)
between_next far left at i is b = record {
  first = b.first;
  column = next_column left at i.count i.tag b.column;
  row = next_row _ left at i.count i.tag b.row;
  near = λ x y live. b.near x y (live_after (cells_at at i) (drawn left (next left at i) is) x y (live_states at i) live);
}

count_near : (far : ℕ) (left : ℤ) (at : Point) (n : ℕ) (t : Tag) (is : List Item) → AreTidy (record { count = n; tag = t } ∷ is)
    → IsBetween far left at (drawn left at (record { count = n; tag = t } ∷ is)) → n ≤ far + far + 1
count_near far left at n (Cell s) is tidy b =
    let r = reach left at n (Cell s) is tidy in
    let e = b.near r.0 r.1 r.3 in
    omega (arith, ints, e.0.1, r.2.2, b.first.0, b.column)
count_near far left at n RowEnd is tidy b =
    let r = reach left at n RowEnd is tidy in
    let e = b.near r.0 r.1 r.3 in
    omega (arith, ints, e.1.1, r.2, b.row)

counts_near : (far : ℕ) (left : ℤ) (at : Point) (is : List Item) → AreTidy is → IsBetween far left at (drawn left at is) → AllByRecursion (λ i. (0 < i.count) × (i.count ≤ far + far + 1)) is
counts_near far left at [] tidy b = tt
counts_near far left at (i ∷ is) tidy b =
    ((tidy_counts i is tidy, count_near far left at i.count i.tag is tidy b), counts_near far left (next left at i) is (tidy_tail i is tidy) (between_next far left at i is b))

-- no count of a tidy list is 0, or greater than the square of its live cells is wide
pub tidy_counts_near : (far : ℕ) (cells : Picture) (corner : Point) (is : List Item) → AreNear far cells → IsNear far corner.x → IsNear far corner.y → AreTidy is → IsSame cells (picture_of_items corner is)
    → AllByRecursion (λ i. (0 < i.count) × (i.count ≤ far + far + 1)) is
tidy_counts_near far cells corner is near x y tidy same =
    counts_near far corner.x corner is tidy (record {
      first = x;
      column = omega (arith, ints);
      row = y.0;
      near = λ a b live. near a b (λ z. live (ap (λ p. cell p a b) (sym (picture_drawn corner is)) ∙ sym (same a b) ∙ z));
    })
