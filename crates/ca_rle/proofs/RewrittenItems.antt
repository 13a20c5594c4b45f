-- The items of a text, written one after another as tidy items.
use Rattle.std.proofs.Common.{◌≡◌, ◌≢◌, ℕ, ◌-◌, ◌<◌, pos, ◌+ℤ◌, ◌≤ℤ◌, List, [], ◌∷◌, ◌++◌, map, codes, ◌⊎◌, inl, inr, refl, sym, ap, subst, ◌∙◌, append_assoc, arith}
use Rattle.std.specs.List.{range_with_len}
use Rattle.std.proofs.lemmas.Bool.{cases_eq}
use Rattle.std.proofs.lemmas.Int.{ints}
use Rattle.ca_plane.specs.Prelude.{Puts, Picture}
use Rattle.ca_plane.specs.declared.point.Point.{Point}
use Rattle.ca_plane.proofs.Pictures.{IsListed-at}
use Rattle.ca_rle.specs.declared.{extent.Offset.Offset, item.Item.Item, item.Tag.Tag, rle_text.RleText.RleText, write.again.Pending.Pending, write.runs.Run.Run as CellRun}
use Rattle.ca_rle.specs.declared.item.Tag.TheVariants.{Cell, RowEnd}
use Rattle.ca_rle.specs.Prelude.{Run, IsEnd, Items, IsRleText, tag_state, place_after, item_cells, picture_after, picture_of_items, AreTidy, item_text}
use Rattle.ca_rle.specs.inner.BodyFaults.{IsItemAtFront}
use Rattle.ca_rle.specs.inner.Extent.{IsOffsetOf, point_from, cells_from}
use Rattle.ca_rle.specs.inner.Written.{some_of, IsPlaced}
use Rattle.ca_rle.specs.inner.RunByRun.{IsAhead, IsBegun, IsReadTo, IsWrittenTo, LaysRun, AddsCells, ComesAfter, EndsAfter, IsCorner, PutsItemsOf}
use Rattle.ca_rle.proofs.DrawnItems.{IsNext, next_place, place_after-push}
use Rattle.ca_rle.proofs.Gaps.{nonzero, tidy-end}
use Rattle.ca_rle.proofs.RisingItems.{run_cell, run_first}
use Rattle.ca_rle.proofs.RunByRun.{run_shown}
use Rattle.ca_rle.proofs.JudgedTexts.{sparse}
use Rattle.ca_rle.proofs.LineLayouts.{laid_more, laid_end}
use Rattle.ca_rle.proofs.MeasuredItems.{IsNextOffset, offset_more}
use Rattle.ca_rle.proofs.Prefixes.{items_left, items_done}
use Rattle.ca_rle.proofs.PushedItems.{picture_after-push, picture_after-append, Run-push}

-- these items were read, and their cells are written
pub record IsRewritten (old new : List ℕ) (states : ℕ) (corner : Point) (pending : Pending) (start : Point) (bytes after : List ℕ) (at : Offset) (items : List Item) : Type 0 where
  pub run : Run bytes items after
  pub offset : IsOffsetOf items at
  pub written : IsWrittenTo old new states corner pending (picture_of_items start items)
  -- the next item begins after the run
  pub late : 0 < pending.run.state → IsAhead (record { y = pending.run.from.y; x = pending.run.past }) (place_after start items)

-- the run that isn't written ends where it begins, or after that
pub whole_run : (old new : List ℕ) (states : ℕ) (corner : Point) (pending : Pending) (seen : Picture) → IsWrittenTo old new states corner pending seen → pending.run.from.x ≤ℤ pending.run.past
whole_run old new states corner pending seen w =
    elim w.read [ inl b ↦ omega (arith, ints, ap (λ (p : Point). p.x) b.from, b.past) | inr r ↦ omega (arith, ints, r.past) ]

module _ (bytes : List ℕ) (text : RleText) (is : IsRleText bytes text) (corner : Point) (right_of : IsCorner (picture_of_items text.corner is.file.items) corner) where
  -- a live item begins right of the corner and below it
  live_place : (rest more : List ℕ) (items : List Item) (j : Item) → Run text.body.now items rest → Run rest (j ∷ []) more → 0 < j.count → tag_state j.tag ≢ 0
      → (corner.x ≤ℤ (place_after text.corner items).x) × (corner.y ≤ℤ (place_after text.corner items).y)
  live_place rest more items j run item some live =
      let all = is.file.items in
      let p = picture_of_items text.corner all in
      let place = place_after text.corner items in
      let left = items_left text.body.now more all (items ++ j ∷ []) is.items (Run-push text.body.now items j rest more run item) in
      let seen = picture_of_items text.corner items in
      let later = picture_after text.corner (items ++ j ∷ []) left.0 in
      let shown : p ≡ (seen ++ item_cells text.corner items j) ++ later =
      ap (picture_of_items text.corner) left.2 ∙ picture_after-append text.corner [] (items ++ j ∷ []) left.0 ∙ ap (λ (q : Picture). q ++ later) (picture_after-push text.corner [] items j)
      in
      let tail = map (run_cell (tag_state j.tag) place) (range_with_len 1 (j.count - 1)) ++ later in
      let first : item_cells text.corner items j ++ later ≡ run_cell (tag_state j.tag) place 0 ∷ tail =
      rw (nonzero (tag_state j.tag) (omega (arith, live))) (run_first (tag_state j.tag) place j.count (j.count - 1) later (omega (arith, some)))
      in
      let split : p ≡ seen ++ run_cell (tag_state j.tag) place 0 ∷ tail = shown ∙ append_assoc seen (item_cells text.corner items j) later ∙ ap (λ (q : Picture). seen ++ q) first in
      let listed = IsListed-at p seen tail (run_cell (tag_state j.tag) place 0) (sparse bytes text is) split in
      let within = right_of (place.x +ℤ pos 0) place.y (λ z. live (sym listed.shown ∙ z)) in
      (omega (arith, ints, within.0), within.1)

  module _ (old new : List ℕ) (states : ℕ) (pending : Pending) (rest more : List ℕ) (at : Offset) (items : List Item) (i : Item)
      (w : IsRewritten old new states corner pending text.corner text.body.now rest at items) (item : IsItemAtFront rest i more) (n : IsNext 255 text.corner items at i item.0) where
    -- its cells may come after the run
    pub comes_after : tag_state i.tag ≢ 0 → ComesAfter corner pending.run (point_from text.corner at)
    comes_after live =
        let place = n.place live in
        let column = ap (λ (p : Point). p.x) place in
        let row = ap (λ (p : Point). p.y) place in
        let tag = ap (λ (k : Item). k.tag) n.same in
        let within = live_place rest more items item.0 w.run item.1 n.some (λ z. live (ap tag_state tag ∙ z)) in
        record {
          left = omega (arith, ints, within.0, column);
          whole = whole_run old new states corner pending (picture_of_items text.corner items) w.written;
          below = elim w.written.read [
            | inl b ↦ omega (arith, ints, ap (λ (p : Point). p.y) b.from, within.1, row)
            | inr r ↦ omega (arith, ints, (w.late r.live).row, row)
          ];
          right = λ same. elim w.written.read [
            | inl b ↦ omega (arith, ints, b.past, within.0, column)
            | inr r ↦ let ahead = (w.late r.live).column (sym row ∙ same) in omega (arith, ints, ahead, column)
          ];
        }

    -- one more item
    pub rewritten_more : (newer : List ℕ) (to : Pending) (next : Offset) → AddsCells states corner new pending (cells_from (point_from text.corner at) i) newer to
        → (tag_state i.tag ≡ 0 → to.run ≡ pending.run) → (tag_state i.tag ≢ 0 → EndsAfter (point_from text.corner at) i.count to.run) → IsNextOffset i at next
        → IsRewritten old newer states corner to text.corner text.body.now more next (items ++ item.0 ∷ [])
    rewritten_more newer to next adds dead live o =
        let j = item.0 in
        let seen = picture_of_items text.corner items in
        let added : seen ++ cells_from (point_from text.corner at) i ≡ picture_of_items text.corner (items ++ j ∷ []) = ap (λ (c : Picture). seen ++ c) n.cells ∙ sym (picture_after-push text.corner [] items j) in
        let tag = ap (λ (k : Item). k.tag) n.same in
        let count = ap (λ (k : Item). k.count) n.same in
        let place = place_after text.corner items in
        record {
          run = Run-push text.body.now items j rest more w.run item.1;
          offset = offset_more items j at next w.offset (subst (λ k. IsNextOffset k at next) item.2 o);
          written = subst (IsWrittenTo old newer states corner to) added (adds old seen w.written);
          late = λ some. subst (λ (p : Point). IsAhead (record { y = to.run.from.y; x = to.run.past }) p) (sym (place_after-push text.corner items j))
              (elim (cases_eq (tag_state i.tag) 0) [
                | inl z ↦
                    let same = dead z in
                    later_place text.corner place j.count j.tag to.run n.some (subst (λ (r : CellRun). IsAhead (record { y = r.from.y; x = r.past }) place) (sym same) (w.late (omega (arith, some, ap (λ (r : CellRun). r.state) same))))
                | inr h ↦
                    let ends = live h in
                    let at_place = n.place h in
                    live_end text.corner place j.count j.tag to.run (λ z. h (ap tag_state tag ∙ z)) (ends.0 ∙ ap (λ (p : Point). p.y) at_place) (omega (arith, ints, ends.1, ap (λ (p : Point). p.x) at_place, count))
              ]);
        }
      where
        later_place : (start place : Point) (m : ℕ) (t : Tag) (run : CellRun) → 0 < m → IsAhead (record { y = run.from.y; x = run.past }) place → IsAhead (record { y = run.from.y; x = run.past }) (next_place start place (record { count = m; tag = t }))
        later_place start place m (Cell s) run some ahead = record { row = ahead.row; column = λ same. let h = ahead.column same in omega (arith, ints, h) }
        later_place start place m RowEnd run some ahead = record { row = omega (arith, ints, ahead.row); column = λ same. absurd (omega (arith, ints, ahead.row, same, some)) }

        live_end : (start place : Point) (m : ℕ) (t : Tag) (run : CellRun) → tag_state t ≢ 0 → run.from.y ≡ place.y → run.past ≤ℤ (place.x +ℤ pos m) → IsAhead (record { y = run.from.y; x = run.past }) (next_place start place (record { count = m; tag = t }))
        live_end start place m (Cell s) run live row column = record { row = omega (arith, ints, row); column = λ same. column }
        live_end start place m RowEnd run live row column = absurd (live refl)

-- ---- the end

-- the last run is a tidy end
last_tidy : (corner : Point) (items : List Item) (run : CellRun) (seen : Picture) (last : ℕ) → run.past ≡ run.from.x +ℤ pos last → IsBegun corner items run seen ⊎ IsReadTo corner items run seen
    → (picture_of_items corner (items ++ some_of (Cell run.state) last) ≡ seen) × AreTidy (items ++ some_of (Cell run.state) last)
last_tidy corner items run seen last past (inl b) =
    let none : last ≡ 0 = omega (arith, ints, past, b.past, ap (λ (p : Point). p.x) b.from) in
    rw (b.none, none, b.unseen) (refl, tt)
last_tidy corner items run seen last past (inr r) =
    let same : last ≡ r.count = omega (arith, ints, past, r.past) in
    rw (same, nonzero r.count r.some) (run_shown corner items run seen r, tidy-end items run.state r.count r.before r.live r.some)

-- the last run, the end and LF
pub rewritten_end : (states filled now : ℕ) (corner : Point) (old new mid last text : List ℕ) (pending : Pending) (seen : Picture) → IsWrittenTo old new states corner pending seen → LaysRun states pending.run new pending.filled mid filled
    → IsPlaced mid filled (codes "!") last now → Puts last text (codes "\n") → PutsItemsOf states corner seen old text
rewritten_end states filled now corner old new mid last text pending seen w (count, past, lays) placed end =
    let items = w.items ++ some_of (Cell pending.run.state) count in
    let tidy = last_tidy corner w.items pending.run seen count past w.read in (
      items,
      laid_end old last text (codes "!") now (map (item_text states) items) (laid_more old mid last (codes "!") filled now (map (item_text states) items) (lays.laid old w.items w.laid) placed (omega arith)) end.whole,
      tidy.0,
      tidy.1,
    )

-- at the end these are all items
pub rewritten_all : (old new text : List ℕ) (states : ℕ) (corner : Point) (pending : Pending) (start : Point) (bytes after : List ℕ) (at : Offset) (items all : List Item)
    → IsRewritten old new states corner pending start bytes after at items → IsEnd after → Items bytes all → PutsItemsOf states corner (picture_of_items start items) old text → PutsItemsOf states corner (picture_of_items start all) old text
rewritten_all old new text states corner pending start bytes after at items all w end spelled puts =
    subst (λ (l : List Item). PutsItemsOf states corner (picture_of_items start l) old text) (sym (items_done bytes after all items spelled w.run end)) puts
