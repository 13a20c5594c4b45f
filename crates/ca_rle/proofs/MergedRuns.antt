-- Tidy items as they are written, run after run.
use Rattle.std.proofs.Common.{◌≡◌, ◌≢◌, ℕ, zero, suc, ◌+◌, ◌<◌, ◌≤◌, ℤ, pos, ◌+ℤ◌, ◌==◌, List, [], ◌∷◌, ◌++◌, map, length, inl, inr, refl, sym, ap, subst, ◌∙◌, append_assoc, arith}
use Rattle.std.specs.Prelude.{if◌then◌else◌}
use Rattle.std.specs.List.{range_with_len}
use Rattle.std.proofs.lemmas.Int.{ints}
use Rattle.std.proofs.lemmas.List.{append-nil, map-append}
use Rattle.ca_plane.specs.declared.point.Point.{Point}
use Rattle.ca_plane.specs.Prelude.{Picture}
use Rattle.ca_plane.proofs.Pictures.{point-same}
use Rattle.ca_rle.specs.declared.{item.Item.Item, item.Tag.Tag, write.again.Pending.Pending, write.runs.Run.Run}
use Rattle.ca_rle.specs.declared.item.Tag.TheVariants.{Cell, RowEnd}
use Rattle.ca_rle.specs.Prelude.{tag_state, place_after, run_of, picture_of_items, item_text}
use Rattle.ca_rle.specs.inner.Extent.{cells_from}
use Rattle.ca_rle.specs.inner.Written.{some_of, IsItemGap, IsPlaced, IsLaid}
use Rattle.ca_rle.specs.inner.RunByRun.{IsBegun, IsReadTo, IsWrittenTo, Lays, LaysGap, LaysRun, AddsCells, AddsRun}
use Rattle.ca_rle.proofs.Gaps.{item_of, nonzero, place-cells, place-gap, cells-gap, before-first, before-next}
use Rattle.ca_rle.proofs.LineLayouts.{laid_more}
use Rattle.ca_rle.proofs.RunByRun.{run_same, run_shown}

-- ---- items that are put

-- one after others
pub lays_more : (states f m n : ℕ) (old mid new : List ℕ) (a b : List Item) → Lays states old f a mid m → Lays states mid m b new n → Lays states old f (a ++ b) new n
lays_more states f m n old mid new a b one two = record {
  low = two.low;
  laid = λ start before laid. subst (λ c. IsLaid start new n (map (item_text states) c)) (append_assoc before a b) (two.laid start (before ++ a) (one.laid start before laid));
}

placed_low : (old new piece : List ℕ) (filled now : ℕ) → IsPlaced old filled piece new now → length piece ≤ 70 → now ≤ 70
placed_low old new piece filled now (inl (room, put, count)) short = omega (arith, room, count)
placed_low old new piece filled now (inr (full, put, count)) short = omega (arith, count, short)

lays_item : (states filled now : ℕ) (old new : List ℕ) (item : Item) → IsPlaced old filled (item_text states item) new now → length (item_text states item) ≤ 70 → Lays states old filled (item ∷ []) new now
lays_item states filled now old new item placed short = record {
  low = placed_low old new (item_text states item) filled now placed short;
  laid = λ start before laid. subst (IsLaid start new now) (sym (map-append (item_text states) before (item ∷ []))) (laid_more start old new (item_text states item) filled now (map (item_text states) before) laid placed short);
}

-- and where there are some
pub lays_some : (states filled now count : ℕ) (old new : List ℕ) (tag : Tag) → count ≢ 0 → IsPlaced old filled (item_text states (item_of tag count)) new now → length (item_text states (item_of tag count)) ≤ 70
    → Lays states old filled (some_of tag count) new now
lays_some states filled now count old new tag some placed short = rw (nonzero count (omega (arith, some))) (lays_item states filled now old new (item_of tag count) placed short)

-- a gap within a row
pub lays_in_row : (states filled now rows columns : ℕ) (left : ℤ) (from to : Point) (old new : List ℕ) → to.y ≡ from.y +ℤ pos rows → rows ≡ 0 → to.x ≡ from.x +ℤ pos columns
    → Lays states old filled (some_of (Cell 0) columns) new now → LaysGap states left from to old filled new now
lays_in_row states filled now rows columns left from to old new below none right put =
    (some_of (Cell 0) columns, record { rows = 0; columns = columns; below = subst (λ (n : ℕ). to.y ≡ from.y +ℤ pos n) none below; right = right; gap_is = refl }, put)

-- a gap over the ends of rows
pub lays_over_rows : (states filled m now rows columns : ℕ) (left : ℤ) (from to : Point) (old mid new : List ℕ) → to.y ≡ from.y +ℤ pos rows → rows ≢ 0 → to.x ≡ left +ℤ pos columns
    → Lays states old filled (some_of RowEnd rows) mid m → Lays states mid m (some_of (Cell 0) columns) new now → LaysGap states left from to old filled new now
lays_over_rows states filled m now rows columns left from to old mid new below some right ends dead =
    let start : (if rows == 0 then from.x else left) ≡ left = rw (nonzero rows (omega (arith, some))) refl in (
      some_of RowEnd rows ++ some_of (Cell 0) columns,
      record { rows = rows; columns = columns; below = below; right = right ∙ ap (λ (x : ℤ). x +ℤ pos columns) (sym start); gap_is = refl },
      lays_more states filled m now old mid new (some_of RowEnd rows) (some_of (Cell 0) columns) ends dead,
    )

-- ---- runs side by side

-- one cell of a run
abbrev run_cell : ℕ → Point → ℕ → Point × ℕ
run_cell state at k = (record { y = at.y; x = at.x +ℤ pos k }, state)

run_later : (state : ℕ) (at from : Point) (k a b n : ℕ) → from.y ≡ at.y → from.x ≡ at.x +ℤ pos k → b ≡ k + a → map (run_cell state from) (range_with_len a n) ≡ map (run_cell state at) (range_with_len b n)
run_later state at from k a b zero row column same = refl
run_later state at from k a b (suc n) row column same =
    let here : run_cell state from a ≡ run_cell state at b =
    ap (λ (p : Point). (p, state)) (point-same (record { y = from.y; x = from.x +ℤ pos a }) (record { y = at.y; x = at.x +ℤ pos b }) row (omega (arith, ints, column, same)))
    in
    ap (λ (e : Point × ℕ). e ∷ map (run_cell state from) (range_with_len (a + 1) n)) here
    ∙ ap (λ (p : Picture). run_cell state at b ∷ p) (run_later state at from k (a + 1) (b + 1) n row column (omega (arith, same)))

range_join : (state : ℕ) (at : Point) (a b m n : ℕ) → b ≡ a + m → map (run_cell state at) (range_with_len a m) ++ map (run_cell state at) (range_with_len b n) ≡ map (run_cell state at) (range_with_len a (m + n))
range_join state at a b zero n same =
    let start : b ≡ a = omega (arith, same) in
    let none : n ≡ 0 + n = omega arith in
    ap (λ (c : ℕ). map (run_cell state at) (range_with_len c n)) start ∙ ap (λ (c : ℕ). map (run_cell state at) (range_with_len a c)) none
range_join state at a b (suc m) n same =
    let more : suc (m + n) ≡ suc m + n = omega arith in
    ap (λ (p : Picture). run_cell state at a ∷ p) (range_join state at (a + 1) b m n (omega (arith, same))) ∙ ap (λ (c : ℕ). map (run_cell state at) (range_with_len a c)) more

-- a run that begins where another ends
run_join : (state : ℕ) (at from : Point) (m n : ℕ) → from.y ≡ at.y → from.x ≡ at.x +ℤ pos m → run_of state at m ++ run_of state from n ≡ run_of state at (m + n)
run_join state at from m n row column =
    ap (λ (p : Picture). run_of state at m ++ p) (run_later state at from m 0 m n row column (omega arith)) ∙ range_join state at 0 m m n (omega arith)

-- ---- the next run

-- it goes on with the last one
pub adds_on : (states : ℕ) (corner : Point) (text : List ℕ) (pending to : Pending) (next : Run) → next.from.y ≡ pending.run.from.y → next.from.x ≡ pending.run.past → next.state ≡ pending.run.state
    → to.run.from ≡ pending.run.from → to.run.past ≡ next.past → to.run.state ≡ pending.run.state → to.filled ≡ pending.filled → AddsRun states corner text pending next text to
adds_on states corner text pending to next row column same from past state filled = λ count some live long start seen w.
    let run = pending.run in
    let joined : (r : IsReadTo corner w.items run seen) → IsReadTo corner w.items to.run (seen ++ run_of next.state next.from count) = λ r.
    let grown : Run = record { from = run.from; past = next.past; state = run.state } in
    let shown = picture_of_items corner w.items in
    let read : IsReadTo corner w.items grown (seen ++ run_of next.state next.from count) = record {
      count = r.count + count;
      some = omega (arith, r.some);
      past = omega (arith, ints, long, column, r.past);
      live = r.live;
      place = r.place;
      before = r.before;
      cells =
          ap (λ (p : Picture). p ++ run_of next.state next.from count) r.cells ∙ append_assoc shown (run_of run.state run.from r.count) (run_of next.state next.from count)
          ∙ ap (λ (p : Picture). shown ++ p) (ap (λ (s : ℕ). run_of run.state run.from r.count ++ run_of s next.from count) same ∙ run_join run.state run.from next.from r.count count row (column ∙ r.past));
    }
    in
    subst (λ (t : Run). IsReadTo corner w.items t (seen ++ run_of next.state next.from count)) (run_same grown to.run (sym from) (sym past) (sym state)) read
    in
    record {
      items = w.items;
      laid = subst (λ (n : ℕ). IsLaid start text n (map (item_text states) w.items)) (sym filled) w.laid;
      read = elim w.read [ inl b ↦ absurd (omega (arith, live, same, b.state)) | inr r ↦ inr (joined r) ];
    }

-- the first run
read_first : (corner : Point) (gap : List Item) (next : Run) (count : ℕ) → 0 < count → 0 < next.state → next.past ≡ next.from.x +ℤ pos count → IsItemGap corner.x corner next.from gap
    → IsReadTo corner gap next (run_of next.state next.from count)
read_first corner gap next count some live long leads = record {
  count = count;
  some = some;
  past = long;
  live = live;
  place = place-gap corner corner next.from [] gap (point-same _ _ (omega (arith, ints)) (omega (arith, ints))) leads;
  before = before-first corner.x corner next.from gap next.state leads live;
  cells = ap (λ (p : Picture). p ++ run_of next.state next.from count) (sym (cells-gap corner corner next.from corner.x [] gap leads));
}

-- a later run
read_next : (corner after : Point) (items gap : List Item) (run next : Run) (seen : Picture) (count : ℕ) → 0 < count → 0 < next.state → next.past ≡ next.from.x +ℤ pos count → (r : IsReadTo corner items run seen)
    → after.y ≡ run.from.y → after.x ≡ run.past → IsItemGap corner.x after next.from gap → (next.from ≡ after → run.state ≢ next.state)
    → IsReadTo corner ((items ++ item_of (Cell run.state) r.count ∷ []) ++ gap) next (seen ++ run_of next.state next.from count)
read_next corner after items gap run next seen count some live long r row column leads apart =
    let whole = items ++ item_of (Cell run.state) r.count ∷ [] in
    let place : place_after corner whole ≡ after =
    place-cells corner items run.state r.count ∙ ap (λ (at : Point). let made : Point = record { y = at.y; x = at.x +ℤ pos r.count } in made) r.place
    ∙ point-same _ _ (sym row) (omega (arith, ints, column, r.past))
    in
    record {
      count = count;
      some = some;
      past = long;
      live = live;
      place = place-gap corner after next.from whole gap place leads;
      before = before-next corner.x after next.from items gap run.state r.count next.state r.before r.live r.some leads live apart;
      cells = ap (λ (p : Picture). p ++ run_of next.state next.from count) (sym (cells-gap corner after next.from corner.x whole gap leads ∙ run_shown corner items run seen r));
    }

-- the last run is put, and what leads to the next
pub adds_next : (states f n : ℕ) (corner after : Point) (left : ℤ) (old mid new : List ℕ) (pending to : Pending) (next : Run) → LaysRun states pending.run old pending.filled mid f → LaysGap states left after next.from mid f new n → left ≡ corner.x
    → after.y ≡ pending.run.from.y → after.x ≡ pending.run.past → (next.from.y ≡ pending.run.from.y → next.from.x ≡ pending.run.past → next.state ≢ pending.run.state)
    → to.run ≡ next → to.filled ≡ n → AddsRun states corner old pending next new to
adds_next states f n corner after left old mid new pending to next (last, past, run_laid) (gap, leads_from, gap_laid) side row column apart run filled = λ count some live long start seen w.
    let tag = Cell pending.run.state in
    let leads = subst (λ (x : ℤ). IsItemGap x after next.from gap) side leads_from in
    let both = lays_more states pending.filled f n old mid new (some_of tag last) gap run_laid gap_laid in
    let other : next.from ≡ after → pending.run.state ≢ next.state = λ same z. apart (ap (λ (p : Point). p.y) same ∙ row) (ap (λ (p : Point). p.x) same ∙ column) (sym z) in
    let added = seen ++ run_of next.state next.from count in
    let begun : IsBegun corner w.items pending.run seen → IsReadTo corner (w.items ++ (some_of tag last ++ gap)) next added = λ b.
    let none : last ≡ 0 = omega (arith, ints, past, b.past, ap (λ (p : Point). p.x) b.from) in
    let items : w.items ++ (some_of tag last ++ gap) ≡ gap = rw (b.none, none) refl in
    let at : after ≡ corner = point-same _ _ (row ∙ ap (λ (p : Point). p.y) b.from) (column ∙ b.past) in
    let cells : added ≡ run_of next.state next.from count = ap (λ (p : Picture). p ++ run_of next.state next.from count) b.unseen in
    subst (λ (p : Picture). IsReadTo corner (w.items ++ (some_of tag last ++ gap)) next p) (sym cells) (subst (λ (l : List Item). IsReadTo corner l next (run_of next.state next.from count)) (sym items)
    (read_first corner gap next count some live long (subst (λ (p : Point). IsItemGap corner.x p next.from gap) at leads)))
    in
    let later : IsReadTo corner w.items pending.run seen → IsReadTo corner (w.items ++ (some_of tag last ++ gap)) next added = λ r.
    let same : last ≡ r.count = omega (arith, ints, past, r.past) in
    let one : some_of tag last ≡ item_of tag r.count ∷ [] = rw (same, nonzero r.count r.some) refl in
    let items : (w.items ++ item_of tag r.count ∷ []) ++ gap ≡ w.items ++ (some_of tag last ++ gap) = append_assoc w.items (item_of tag r.count ∷ []) gap ∙ ap (λ (l : List Item). w.items ++ (l ++ gap)) (sym one) in
    subst (λ (l : List Item). IsReadTo corner l next added) items (read_next corner after w.items gap pending.run next seen count some live long r row column leads other)
    in
    let read : IsReadTo corner (w.items ++ (some_of tag last ++ gap)) next added = elim w.read [ inl b ↦ begun b | inr r ↦ later r ] in
    record {
      items = w.items ++ (some_of tag last ++ gap);
      laid = subst (λ (m : ℕ). IsLaid start new m (map (item_text states) (w.items ++ (some_of tag last ++ gap)))) (sym filled) (both.laid start w.items w.laid);
      read = inr (subst (λ (t : Run). IsReadTo corner (w.items ++ (some_of tag last ++ gap)) t added) (sym run) read);
    }

-- ---- the cells of an item

-- none
pub adds_none : (states : ℕ) (corner at : Point) (text : List ℕ) (pending : Pending) (item : Item) → tag_state item.tag ≡ 0 → AddsCells states corner text pending (cells_from at item) text pending
adds_none states corner at text pending item dead = λ start seen w. rw dead (subst (IsWrittenTo start text states corner pending) (sym (append-nil seen)) w)

-- some
pub adds_live : (states : ℕ) (corner at : Point) (old new : List ℕ) (pending to : Pending) (item : Item) (run : Run) → tag_state item.tag ≢ 0 → 0 < item.count → run.from ≡ at → run.past ≡ at.x +ℤ pos item.count
    → run.state ≡ tag_state item.tag → AddsRun states corner old pending run new to → AddsCells states corner old pending (cells_from at item) new to
adds_live states corner at old new pending to item run live some from past state adds = λ start seen w.
    let apart = nonzero (tag_state item.tag) (omega (arith, live)) in
    let column = ap (λ (p : Point). p.x) from in
    let written = adds item.count some (omega (arith, live, state)) (omega (arith, ints, past, column)) start seen w in
    let cells : run_of run.state run.from item.count ≡ run_of (tag_state item.tag) at item.count = ap (λ (s : ℕ). run_of s run.from item.count) state ∙ ap (λ (p : Point). run_of (tag_state item.tag) p item.count) from in
    rw apart (subst (λ (c : Picture). IsWrittenTo start new states corner to (seen ++ c)) cells written)
