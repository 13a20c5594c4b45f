-- Tidy items that are written run by run: those that are written, and the run that isn't yet.
use Rattle.std.specs.Prelude.{◌≡◌, ◌≢◌, ℕ, ◌<◌, ◌≤◌, ℤ, pos, ◌+ℤ◌, ◌≤ℤ◌, List, [], ◌∷◌, ◌++◌, map, codes, ◌⊎◌}
use Rattle.ca_plane.specs.declared.point.Point.{Point}
use Rattle.ca_plane.specs.Prelude.{Picture, cell}
use Rattle.ca_rle.specs.declared.{item.Item.Item, item.Tag.Tag, write.runs.Run.Run, write.again.Pending.Pending}
use Rattle.ca_rle.specs.declared.item.Tag.TheVariants.{Cell, RowEnd}
use Rattle.ca_rle.specs.{Shown.place_after, Shown.run_of, Shown.picture_of_items, Tidy.AreTidy, Tidy.item_text, inner.Written.some_of, inner.Written.IsItemGap}
use Rattle.ca_rle.specs.{inner.Written.IsLaid, inner.Written.PutsLines}

-- the point is at a place in reading order, or after it
pub record IsAhead (at point : Point) : Type 0 where
  pub row : at.y ≤ℤ point.y
  pub column : point.y ≡ at.y → at.x ≤ℤ point.x

-- items that may stand before one with this tag, in a tidy list
abbrev pub AreBefore : List Item → Tag → Type 0
AreBefore [] tag = Unit {0}
AreBefore (i ∷ []) tag = (0 < i.count) × (i.tag ≢ tag) × (i.tag ≡ Cell 0 → tag ≢ RowEnd)
AreBefore (i ∷ j ∷ is) tag = (0 < i.count) × (i.tag ≢ j.tag) × (i.tag ≡ Cell 0 → j.tag ≢ RowEnd) × AreBefore (j ∷ is) tag

-- the items before a run, and the run of `count` cells, lead from the corner onwards and show these cells
pub record IsReadTo (corner : Point) (items : List Item) (run : Run) (seen : Picture) : Type 0 where
  pub count : ℕ
  pub some : 0 < count
  pub past : run.past ≡ run.from.x +ℤ pos count
  pub live : 0 < run.state
  pub place : place_after corner items ≡ run.from
  pub before : AreBefore items (Cell run.state)
  pub cells : seen ≡ picture_of_items corner items ++ run_of run.state run.from count

-- no run is met yet
pub record IsBegun (corner : Point) (items : List Item) (run : Run) (seen : Picture) : Type 0 where
  pub none : items ≡ []
  pub from : run.from ≡ corner
  pub past : run.past ≡ corner.x
  pub state : run.state ≡ 0
  pub unseen : seen ≡ []

-- the items before the run stand in lines, and show these cells with it
pub record IsWrittenTo (start text : List ℕ) (states : ℕ) (corner : Point) (pending : Pending) (seen : Picture) : Type 0 where
  pub items : List Item
  pub laid : IsLaid start text pending.filled (map (item_text states) items)
  pub read : IsBegun corner items pending.run seen ⊎ IsReadTo corner items pending.run seen

-- these items are put after others, and the last line has `now` characters then
pub record Lays (states : ℕ) (old : List ℕ) (filled : ℕ) (items : List Item) (new : List ℕ) (now : ℕ) : Type 0 where
  pub low : now ≤ 70
  pub laid : (start : List ℕ) (before : List Item) → IsLaid start old filled (map (item_text states) before) → IsLaid start new now (map (item_text states) (before ++ items))

-- a gap from one place to a later one is
abbrev pub LaysGap : ℕ → ℤ → Point → Point → List ℕ → ℕ → List ℕ → ℕ → Type 0
LaysGap states left from to old filled new now = (gap : List Item) × IsItemGap left from to gap × Lays states old filled gap new now

-- a run is
abbrev pub LaysRun : ℕ → Run → List ℕ → ℕ → List ℕ → ℕ → Type 0
LaysRun states run old filled new now = (count : ℕ) × (run.past ≡ run.from.x +ℤ pos count) × Lays states old filled (some_of (Cell run.state) count) new now

-- these cells are written after those before
abbrev pub AddsCells : ℕ → Point → List ℕ → Pending → Picture → List ℕ → Pending → Type 0
AddsCells states corner old from cells new to =
    (start : List ℕ) (seen : Picture) → IsWrittenTo start old states corner from seen → IsWrittenTo start new states corner to (seen ++ cells)

-- a run of some live cells is
abbrev pub AddsRun : ℕ → Point → List ℕ → Pending → Run → List ℕ → Pending → Type 0
AddsRun states corner old from run new to =
    (count : ℕ) → 0 < count → 0 < run.state → run.past ≡ run.from.x +ℤ pos count → AddsCells states corner old from (run_of run.state run.from count) new to

-- the run ends after `count` cells from a point
abbrev pub EndsAfter : Point → ℕ → Run → Type 0
EndsAfter at count run = (run.from.y ≡ at.y) × (run.past ≡ at.x +ℤ pos count)

-- the cells may come after the run: it ends before them, and they are right of the corner and below it
pub record ComesAfter (corner : Point) (run : Run) (at : Point) : Type 0 where
  pub left : corner.x ≤ℤ at.x
  pub whole : run.from.x ≤ℤ run.past
  pub below : run.from.y ≤ℤ at.y
  pub right : at.y ≡ run.from.y → run.past ≤ℤ at.x

-- the cells are right of the corner and below it
abbrev pub IsCorner : Picture → Point → Type 0
IsCorner cells corner = (x y : ℤ) → cell cells x y ≢ 0 → (corner.x ≤ℤ x) × (corner.y ≤ℤ y)

-- the tidy items of these cells and the end stand after a text
abbrev pub PutsItemsOf : ℕ → Point → Picture → List ℕ → List ℕ → Type 0
PutsItemsOf states corner cells old new =
    (items : List Item) × PutsLines old new (map (item_text states) items ++ codes "!" ∷ []) × (picture_of_items corner items ≡ cells) × AreTidy items
