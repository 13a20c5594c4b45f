-- Row ends and dead cells between runs: where they lead, that they show nothing, and what may stand after them.
use Rattle.std.proofs.Common.{◌≡◌, ◌≢◌, ℕ, zero, suc, ◌+◌, ◌<◌, ℤ, pos, ◌+ℤ◌, false, ◌==◌, List, [], ◌∷◌, ◌++◌, refl, sym, ap, subst, ◌∙◌, append_assoc, arith}
use Rattle.std.specs.Prelude.{if◌then◌else◌}
use Rattle.std.proofs.lemmas.Bool.{eqb-true, false_from_ne_true}
use Rattle.std.proofs.lemmas.Int.{ints}
use Rattle.std.proofs.lemmas.List.{append-nil}
use Rattle.ca_plane.specs.declared.point.Point.{Point}
use Rattle.ca_plane.proofs.Pictures.{point-same}
use Rattle.ca_rle.specs.declared.item.{Item.Item, Tag.Tag}
use Rattle.ca_rle.specs.declared.item.Tag.TheVariants.{Cell, RowEnd}
use Rattle.ca_rle.specs.Prelude.{tag_state, row_count, columns_of, run_of, place_after, picture_of_items, AreTidy}
use Rattle.ca_rle.specs.inner.Written.{some_of, IsItemGap}
use Rattle.ca_rle.specs.inner.RunByRun.{AreBefore}
use Rattle.ca_rle.proofs.PushedItems.{row_count-push, columns_of-push, picture_after-push}

-- `count` of a tag, as one item
abbrev pub item_of : Tag → ℕ → Item
item_of tag count = record { count = count; tag = tag }

-- a number above 0 isn't 0
pub nonzero : (n : ℕ) → 0 < n → (n == 0) ≡ false
nonzero n some = false_from_ne_true _ (λ e. omega (arith, eqb-true n 0 e))

some-suc : (tag : Tag) (n : ℕ) → some_of tag (suc n) ≡ item_of tag (suc n) ∷ []
some-suc tag n = rw (nonzero (suc n) (omega arith)) refl

-- ---- gaps that were put

-- new is old with a gap after it
abbrev pub PutsGap : ℤ → Point → Point → List Item → List Item → Type 0
PutsGap left from to old new = (gap : List Item) × IsItemGap left from to gap × (new ≡ old ++ gap)

-- a gap within a row
pub gap-in_row : (left : ℤ) (from to : Point) (old new : List Item) (rows columns : ℕ) → to.y ≡ from.y +ℤ pos rows → rows ≡ 0 → to.x ≡ from.x +ℤ pos columns
    → new ≡ old ++ some_of (Cell 0) columns → PutsGap left from to old new
gap-in_row left from to old new rows columns below none right put =
    (some_of (Cell 0) columns, record { rows = 0; columns = columns; below = subst (λ (n : ℕ). to.y ≡ from.y +ℤ pos n) none below; right = right; gap_is = refl }, put)

-- a gap over the ends of rows
pub gap-over_rows : (left : ℤ) (from to : Point) (old mid new : List Item) (rows columns : ℕ) → to.y ≡ from.y +ℤ pos rows → rows ≢ 0 → to.x ≡ left +ℤ pos columns
    → mid ≡ old ++ some_of RowEnd rows → new ≡ mid ++ some_of (Cell 0) columns → PutsGap left from to old new
gap-over_rows left from to old mid new rows columns below some right ends dead =
    let above : 0 < rows = omega (arith, some) in
    let start : (if rows == 0 then from.x else left) ≡ left = rw (nonzero rows above) refl in (
      some_of RowEnd rows ++ some_of (Cell 0) columns,
      record { rows = rows; columns = columns; below = below; right = right ∙ ap (λ (x : ℤ). x +ℤ pos columns) (sym start); gap_is = refl },
      dead ∙ ap (λ (l : List Item). l ++ some_of (Cell 0) columns) ends ∙ append_assoc old (some_of RowEnd rows) (some_of (Cell 0) columns),
    )

-- ---- places

-- after row ends a row begins
pub place-row : (corner : Point) (is : List Item) (n : ℕ) → place_after corner (is ++ item_of RowEnd n ∷ []) ≡ record { y = (place_after corner is).y +ℤ pos n; x = corner.x }
place-row corner is n =
    let rows : row_count (is ++ item_of RowEnd n ∷ []) ≡ row_count is + n = row_count-push is (item_of RowEnd n) in
    let columns : columns_of (is ++ item_of RowEnd n ∷ []) ≡ 0 = columns_of-push is (item_of RowEnd n) in
    point-same _ _ (omega (arith, ints, rows)) (omega (arith, ints, columns))

-- after cells the row goes on
pub place-cells : (corner : Point) (is : List Item) (s n : ℕ) → place_after corner (is ++ item_of (Cell s) n ∷ []) ≡ record { y = (place_after corner is).y; x = (place_after corner is).x +ℤ pos n }
place-cells corner is s n =
    let rows : row_count (is ++ item_of (Cell s) n ∷ []) ≡ row_count is + 0 = row_count-push is (item_of (Cell s) n) in
    let columns : columns_of (is ++ item_of (Cell s) n ∷ []) ≡ columns_of is + n = columns_of-push is (item_of (Cell s) n) in
    point-same _ _ (omega (arith, ints, rows)) (omega (arith, ints, columns))

place-rows : (corner : Point) (is : List Item) (n : ℕ)
    → place_after corner (is ++ some_of RowEnd n) ≡ record { y = (place_after corner is).y +ℤ pos n; x = (if n == 0 then (place_after corner is).x else corner.x) }
place-rows corner is zero = ap (place_after corner) (append-nil is) ∙ point-same _ _ (omega (arith, ints)) refl
place-rows corner is (suc n) = rw (nonzero (suc n) (omega arith)) (place-row corner is (suc n))

place-dead : (corner : Point) (is : List Item) (n : ℕ) → place_after corner (is ++ some_of (Cell 0) n) ≡ record { y = (place_after corner is).y; x = (place_after corner is).x +ℤ pos n }
place-dead corner is zero = ap (place_after corner) (append-nil is) ∙ point-same _ _ refl (omega (arith, ints))
place-dead corner is (suc n) = rw (nonzero (suc n) (omega arith)) (place-cells corner is 0 (suc n))

-- a gap leads to its end
pub place-gap : (corner from to : Point) (is gap : List Item) → place_after corner is ≡ from → IsItemGap corner.x from to gap → place_after corner (is ++ gap) ≡ to
place-gap corner from to is gap at leads =
    let rows = some_of RowEnd leads.rows in
    let dead = some_of (Cell 0) leads.columns in
    let after : place_after corner (is ++ rows) ≡ record { y = from.y +ℤ pos leads.rows; x = (if leads.rows == 0 then from.x else corner.x) } =
    place-rows corner is leads.rows ∙ ap (λ (p : Point). let made : Point = record { y = p.y +ℤ pos leads.rows; x = (if leads.rows == 0 then p.x else corner.x) } in made) at
    in
    ap (λ (l : List Item). place_after corner (is ++ l)) leads.gap_is ∙ ap (place_after corner) (sym (append_assoc is rows dead))
    ∙ place-dead corner (is ++ rows) leads.columns
    ∙ ap (λ (p : Point). let made : Point = record { y = p.y; x = p.x +ℤ pos leads.columns } in made) after
    ∙ point-same _ _ (sym leads.below) (sym leads.right)

-- ---- cells

-- one more item that isn't live shows no more
cells-dead : (corner : Point) (is : List Item) (tag : Tag) (n : ℕ) → tag_state tag ≡ 0 → picture_of_items corner (is ++ some_of tag n) ≡ picture_of_items corner is
cells-dead corner is tag zero dead = ap (picture_of_items corner) (append-nil is)
cells-dead corner is tag (suc n) dead =
    rw (nonzero (suc n) (omega arith)) (picture_after-push corner [] is (item_of tag (suc n)) ∙ rw dead (append-nil (picture_of_items corner is)))

-- a gap shows no more
pub cells-gap : (corner from to : Point) (left : ℤ) (is gap : List Item) → IsItemGap left from to gap → picture_of_items corner (is ++ gap) ≡ picture_of_items corner is
cells-gap corner from to left is gap leads =
    let rows = some_of RowEnd leads.rows in
    let dead = some_of (Cell 0) leads.columns in
    ap (λ (l : List Item). picture_of_items corner (is ++ l)) leads.gap_is ∙ ap (picture_of_items corner) (sym (append_assoc is rows dead))
    ∙ cells-dead corner (is ++ rows) (Cell 0) leads.columns refl ∙ cells-dead corner is RowEnd leads.rows refl

-- one more run shows its cells
pub cells-run : (corner : Point) (is : List Item) (s n : ℕ) → 0 < s → picture_of_items corner (is ++ item_of (Cell s) n ∷ []) ≡ picture_of_items corner is ++ run_of s (place_after corner is) n
cells-run corner is s n live = picture_after-push corner [] is (item_of (Cell s) n) ∙ rw (nonzero s live) refl

-- ---- tidiness

-- one more item that may stand there
pub before-push : (is : List Item) (tag next : Tag) (n : ℕ) → AreBefore is tag → 0 < n → tag ≢ next → (tag ≡ Cell 0 → next ≢ RowEnd) → AreBefore (is ++ item_of tag n ∷ []) next
before-push [] tag next n before some apart ends = (some, apart, ends)
before-push (i ∷ []) tag next n (count, other, row) some apart ends = (count, other, row, (some, apart, ends))
before-push (i ∷ j ∷ is) tag next n (count, other, row, later) some apart ends = (count, other, row, before-push (j ∷ is) tag next n later some apart ends)

-- a run of live cells may be the last
pub tidy-end : (is : List Item) (s n : ℕ) → AreBefore is (Cell s) → 0 < s → 0 < n → AreTidy (is ++ item_of (Cell s) n ∷ [])
tidy-end [] s n before live some = (some, live)
tidy-end (i ∷ []) s n (count, other, row) live some = (count, other, row, (some, live))
tidy-end (i ∷ j ∷ is) s n (count, other, row, later) live some = (count, other, row, tidy-end (j ∷ is) s n later live some)

row_no_cell : (s : ℕ) → RowEnd ≢ Cell s
row_no_cell s e =
    let no : ⊥ = cc in no

cell_no_row : (s : ℕ) → Cell s ≢ RowEnd
cell_no_row s e =
    let no : ⊥ = cc in no

cell_no_cell : (s t : ℕ) → s ≢ t → Cell s ≢ Cell t
cell_no_cell s t apart e =
    let same : s ≡ t = cc in apart same

-- a run may stand after a gap that is one, or after items that it doesn't join
before-gap : (is : List Item) (t rows columns : ℕ) → 0 < t → AreBefore is RowEnd → AreBefore is (Cell 0) → (rows ≡ 0 → columns ≡ 0 → AreBefore is (Cell t))
    → AreBefore (is ++ (some_of RowEnd rows ++ some_of (Cell 0) columns)) (Cell t)
before-gap is t zero zero live row dead here = subst (λ (l : List Item). AreBefore l (Cell t)) (sym (append-nil is)) (here refl refl)
before-gap is t zero (suc c) live row dead here =
    rw (some-suc (Cell 0) c)
    (before-push is (Cell 0) (Cell t) (suc c) dead (omega arith) (cell_no_cell 0 t (λ z. omega (arith, z))) (λ _. cell_no_row t))
before-gap is t (suc r) zero live row dead here =
    rw (some-suc RowEnd r) (before-push is RowEnd (Cell t) (suc r) row (omega arith) (row_no_cell t) (λ e. absurd (row_no_cell 0 e)))
before-gap is t (suc r) (suc c) live row dead here =
    rw (some-suc RowEnd r, some-suc (Cell 0) c)
    (subst (λ (l : List Item). AreBefore l (Cell t)) (append_assoc is (item_of RowEnd (suc r) ∷ []) (item_of (Cell 0) (suc c) ∷ []))
    (before-push (is ++ item_of RowEnd (suc r) ∷ []) (Cell 0) (Cell t) (suc c)
    (before-push is RowEnd (Cell 0) (suc r) row (omega arith) (row_no_cell 0) (λ e. absurd (row_no_cell 0 e)))
    (omega arith) (cell_no_cell 0 t (λ z. omega (arith, z))) (λ _. cell_no_row t)))

-- a gap of no row ends and no dead cells leads nowhere
gap_stays : (left : ℤ) (from to : Point) (gap : List Item) (leads : IsItemGap left from to gap) → leads.rows ≡ 0 → leads.columns ≡ 0 → to ≡ from
gap_stays left from to gap leads rows columns =
    let start : (if leads.rows == 0 then from.x else left) ≡ from.x = rw rows refl in
    point-same to from (omega (arith, ints, leads.below)) (omega (arith, ints, leads.right))

-- the first run, after its gap
pub before-first : (left : ℤ) (from to : Point) (gap : List Item) (t : ℕ) → IsItemGap left from to gap → 0 < t → AreBefore gap (Cell t)
before-first left from to gap t leads live =
    subst (λ (l : List Item). AreBefore l (Cell t)) (sym leads.gap_is) (before-gap [] t leads.rows leads.columns live tt tt (λ _ _. tt))

-- a later run, after the run before it and the gap
pub before-next : (left : ℤ) (from to : Point) (is gap : List Item) (s m t : ℕ) → AreBefore is (Cell s) → 0 < s → 0 < m → IsItemGap left from to gap → 0 < t
    → (to ≡ from → s ≢ t) → AreBefore ((is ++ item_of (Cell s) m ∷ []) ++ gap) (Cell t)
before-next left from to is gap s m t before some count leads live apart =
    let run = is ++ item_of (Cell s) m ∷ [] in
    subst (λ (l : List Item). AreBefore (run ++ l) (Cell t)) (sym leads.gap_is)
    (before-gap run t leads.rows leads.columns live
    (before-push is (Cell s) RowEnd m before count (cell_no_row s) (λ e. absurd (cell_no_cell s 0 (λ z. omega (arith, z)) e)))
    (before-push is (Cell s) (Cell 0) m before count (cell_no_cell s 0 (λ z. omega (arith, z))) (λ _. cell_no_row 0))
    (λ rows columns. before-push is (Cell s) (Cell t) m before count (cell_no_cell s t (apart (gap_stays left from to gap leads rows columns))) (λ _. cell_no_row t)))
