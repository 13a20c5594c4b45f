-- The items of a plane, as they grow run by run.
use Rattle.std.proofs.Common.{◌≡◌, ◌≢◌, ℕ, ◌+◌, ◌<◌, ◌^◌, ℤ, pos, ◌+ℤ◌, ◌≤ℤ◌, ◌<ℤ◌, List, [], ◌∷◌, ◌++◌, map, Ordering, Less, Equal, Greater, Option, Some, None, refl, sym, ap, subst, ◌∙◌, append_assoc, zero-add, arith}
use Rattle.std.specs.List.{AllByRecursion}
use Rattle.std.specs.List.Sorted.{IsStrictlySortedBy}
use Rattle.std.specs.Ordering.{int_cmp, ordering_then, MatchOrdering}
use Rattle.std.specs.Iterator.{YieldsFirst}
use Rattle.std.proofs.lemmas.Cmp.{int_ranked}
use Rattle.std.proofs.lemmas.Int.{ints}
use Rattle.std.proofs.lemmas.List.{append-nil}
use Rattle.std.proofs.lemmas.List.FromFn.{map-range_with_len_more}
use Rattle.std.proofs.lemmas.Map.Iter.{rest_more, rest_all}
use Rattle.std.proofs.lemmas.Map.Keys.{sorted_head, sorted_tail}
use Rattle.ca_plane.specs.declared.point.Point.{Point}
use Rattle.ca_plane.specs.Prelude.{Picture, IsSparse, point_cmp}
use Rattle.ca_plane.proofs.Pictures.{IsListed-at, point-same}
use Rattle.ca_rle.specs.declared.{item.Item.Item, write.runs.Run.Run}
use Rattle.ca_rle.specs.declared.item.Tag.TheVariants.{Cell}
use Rattle.ca_rle.specs.Prelude.{place_after, run_of, picture_of_items, AreTidy}
use Rattle.ca_rle.specs.inner.Written.{IsItemGap}
use Rattle.ca_rle.specs.inner.RunByRun.{IsAhead, IsReadTo, IsCorner}
use Rattle.ca_rle.proofs.Gaps.{PutsGap, item_of, place-cells, place-gap, cells-gap, cells-run, before-first, before-next, tidy-end}

-- ---- reading order

orders_ahead : (r s : Ordering) (a b c d : ℤ) → ordering_then r s ≡ Less → MatchOrdering r (a <ℤ b) (a ≡ b) (b <ℤ a) → MatchOrdering s (c <ℤ d) (c ≡ d) (d <ℤ c)
    → (a ≤ℤ b) × (b ≡ a → (c +ℤ pos 1) ≤ℤ d)
orders_ahead Less s a b c d e row column = (omega (arith, ints, row), λ same. absurd (omega (arith, ints, row, same)))
orders_ahead Equal Less a b c d e row column = (omega (arith, ints, row), λ same. omega (arith, ints, column))
orders_ahead Equal Equal a b c d e row column =
    let no : ⊥ = cc in absurd no
orders_ahead Equal Greater a b c d e row column =
    let no : ⊥ = cc in absurd no
orders_ahead Greater s a b c d e row column =
    let no : ⊥ = cc in absurd no

-- a later point is ahead of the place after an earlier one
less_ahead : (p q at : Point) → point_cmp p q ≡ Less → at.y ≡ p.y → at.x ≡ p.x +ℤ pos 1 → IsAhead at q
less_ahead p q at less row column =
    let both = orders_ahead (int_cmp p.y q.y) (int_cmp p.x q.x) p.y q.y p.x q.x less (int_ranked p.y q.y _ refl) (int_ranked p.x q.x _ refl) in
    record {
      row = omega (arith, ints, both.0);
      column = λ same. let right = both.1 (same ∙ row) in omega (arith, ints);
    }

-- the points of these cells are all ahead of a place
abbrev pub AreAhead : Point → Picture → Type 0
AreAhead at p = AllByRecursion (λ q. IsAhead at q) (map (λ e. e.0) p)

all_ahead : (p at : Point) (qs : List Point) → at.y ≡ p.y → at.x ≡ p.x +ℤ pos 1 → AllByRecursion (λ q. point_cmp p q ≡ Less) qs → AllByRecursion (λ q. IsAhead at q) qs
all_ahead p at [] row column less = tt
all_ahead p at (q ∷ qs) row column less = (less_ahead p q at less.0 row column, all_ahead p at qs row column less.1)

-- what is sorted stays so without its first
sorted_after : (xs rest : Picture) → IsStrictlySortedBy point_cmp (map (λ e. e.0) (xs ++ rest)) → IsStrictlySortedBy point_cmp (map (λ e. e.0) rest)
sorted_after [] rest sorted = sorted
sorted_after (x ∷ xs) rest sorted = sorted_after xs rest (sorted_tail point_cmp _ _ sorted)

-- after a cell of a sparse picture all others are ahead of the place after it
pub ahead_after : (p xs u : Picture) (e : Point × ℕ) (at : Point) → IsSparse p → p ≡ xs ++ e ∷ u → at.y ≡ e.0.y → at.x ≡ e.0.x +ℤ pos 1 → AreAhead at u
ahead_after p xs u e at sparse split row column =
    let sorted = sorted_after xs (e ∷ u) (subst (λ (q : Picture). IsStrictlySortedBy point_cmp (map (λ f. f.0) q)) split sparse.rising) in
    all_ahead e.0 at (map (λ f. f.0) u) row column (sorted_head point_cmp _ _ sorted)

-- ---- runs

-- runs with the same parts are the same
pub run_same : (run next : Run) → run.from ≡ next.from → run.past ≡ next.past → run.state ≡ next.state → run ≡ next
run_same run next from past state = λ t. record { from = from t; past = past t; state = state t }

-- a cell that is n places after the first of a run
run_cell : (e : Point × ℕ) (at : Point) (state n : ℕ) → e.0.y ≡ at.y → e.0.x ≡ at.x +ℤ pos n → e.1 ≡ state → e ≡ (record { y = at.y; x = at.x +ℤ pos n }, state)
run_cell e at state n row column same =
    let place : e.0 ≡ record { y = at.y; x = at.x +ℤ pos n } = point-same _ _ row column in
    let along : (e.0, e.1) ≡ (record { y = at.y; x = at.x +ℤ pos n }, state) = cc in along

-- the run of one cell
run_one : (e : Point × ℕ) → e ∷ [] ≡ run_of e.1 e.0 1
run_one e = ap (λ (f : Point × ℕ). f ∷ []) (run_cell e e.0 e.1 0 refl (omega (arith, ints)) refl)

-- a run with one more cell
run_push : (e : Point × ℕ) (at : Point) (state n : ℕ) → e.0.y ≡ at.y → e.0.x ≡ at.x +ℤ pos n → e.1 ≡ state → run_of state at n ++ e ∷ [] ≡ run_of state at (n + 1)
run_push e at state n row column same =
    ap (λ (f : Point × ℕ). run_of state at n ++ f ∷ []) (run_cell e at state n row column same)
    ∙ sym (map-range_with_len_more (λ k. (record { y = at.y; x = at.x +ℤ pos k }, state)) 0 n n (zero-add n))

-- the run of one cell, as it begins
abbrev begun : Point × ℕ → Run
begun e = record { from = e.0; past = e.0.x +ℤ pos 1; state = e.1 }

-- the first run
first_run : (corner : Point) (gap : List Item) (run : Run) (e : Point × ℕ) → IsItemGap corner.x corner e.0 gap → 0 < e.1
    → run.from ≡ e.0 → run.past ≡ e.0.x +ℤ pos 1 → run.state ≡ e.1 → IsReadTo corner gap run (e ∷ [])
first_run corner gap run e leads live from past state =
    let read : IsReadTo corner gap (begun e) (e ∷ []) = record {
      count = 1;
      some = omega arith;
      past = refl;
      live = live;
      place = place-gap corner corner e.0 [] gap (point-same _ _ (omega (arith, ints)) (omega (arith, ints))) leads;
      before = before-first corner.x corner e.0 gap e.1 leads live;
      cells = run_one e ∙ ap (λ (p : Picture). p ++ run_of e.1 e.0 1) (sym (cells-gap corner corner e.0 corner.x [] gap leads));
    }
    in
    subst (λ (r : Run). IsReadTo corner gap r (e ∷ [])) (run_same (begun e) run (sym from) (sym past) (sym state)) read

-- one more cell of the run
pub read-more : (corner : Point) (items : List Item) (run next : Run) (seen : Picture) (e : Point × ℕ) → IsReadTo corner items run seen
    → next.from ≡ run.from → next.past ≡ e.0.x +ℤ pos 1 → next.state ≡ run.state → e.0.y ≡ run.from.y → e.0.x ≡ run.past → e.1 ≡ run.state
    → IsReadTo corner items next (seen ++ e ∷ [])
read-more corner items run next seen e read from past state row column same =
    let n = read.count in
    let shown = picture_of_items corner items in
    let more : Run = record { from = run.from; past = e.0.x +ℤ pos 1; state = run.state } in
    let at : e.0.x ≡ run.from.x +ℤ pos n = column ∙ read.past in
    let grown : IsReadTo corner items more (seen ++ e ∷ []) = record {
      count = n + 1;
      some = omega arith;
      past = omega (arith, ints, at);
      live = read.live;
      place = read.place;
      before = read.before;
      cells =
          ap (λ (p : Picture). p ++ e ∷ []) read.cells ∙ append_assoc shown (run_of run.state run.from n) (e ∷ [])
          ∙ ap (λ (p : Picture). shown ++ p) (run_push e run.from run.state n row at same);
    }
    in
    subst (λ (r : Run). IsReadTo corner items r (seen ++ e ∷ [])) (run_same more next (sym from) (sym past) (sym state)) grown

-- items with the same parts are the same
item_same : (item : Item) (state n : ℕ) → item.tag ≡ Cell state → item.count ≡ n → item ≡ item_of (Cell state) n
item_same item state n tag count = λ t. record { count = count t; tag = tag t }

-- the item of a run
run_item : (corner : Point) (items : List Item) (run : Run) (seen : Picture) (item : Item) (read : IsReadTo corner items run seen)
    → item.tag ≡ Cell run.state → run.past ≡ run.from.x +ℤ pos item.count → item ≡ item_of (Cell run.state) read.count
run_item corner items run seen item read tag past = item_same item run.state read.count tag (omega (arith, ints, read.past, past))

-- the picture of the items with the run's
pub run_shown : (corner : Point) (items : List Item) (run : Run) (seen : Picture) (read : IsReadTo corner items run seen)
    → picture_of_items corner (items ++ item_of (Cell run.state) read.count ∷ []) ≡ seen
run_shown corner items run seen read =
    cells-run corner items run.state read.count read.live ∙ ap (λ (at : Point). picture_of_items corner items ++ run_of run.state at read.count) read.place ∙ sym read.cells

-- the next run
next_run : (corner : Point) (items gap : List Item) (run next : Run) (seen : Picture) (e : Point × ℕ) (item : Item) (after : Point) → IsReadTo corner items run seen
    → item.tag ≡ Cell run.state → run.past ≡ run.from.x +ℤ pos item.count → after.y ≡ run.from.y → after.x ≡ run.past
    → IsItemGap corner.x after e.0 gap → 0 < e.1 → (e.0 ≡ after → run.state ≢ e.1)
    → next.from ≡ e.0 → next.past ≡ e.0.x +ℤ pos 1 → next.state ≡ e.1
    → IsReadTo corner ((items ++ item ∷ []) ++ gap) next (seen ++ e ∷ [])
next_run corner items gap run next seen e item after read tag count row column leads live apart from past state =
    let here = item_of (Cell run.state) read.count in
    let whole = items ++ here ∷ [] in
    let place : place_after corner whole ≡ after =
    place-cells corner items run.state read.count ∙ ap (λ (at : Point). let made : Point = record { y = at.y; x = at.x +ℤ pos read.count } in made) read.place
    ∙ point-same _ _ (sym row) (omega (arith, ints, column, read.past))
    in
    let begins : IsReadTo corner (whole ++ gap) (begun e) (seen ++ e ∷ []) = record {
      count = 1;
      some = omega arith;
      past = refl;
      live = live;
      place = place-gap corner after e.0 whole gap place leads;
      before = before-next corner.x after e.0 items gap run.state read.count e.1 read.before read.live read.some leads live apart;
      cells =
          ap (λ (p : Picture). p ++ e ∷ []) (sym (cells-gap corner after e.0 corner.x whole gap leads ∙ run_shown corner items run seen read))
          ∙ ap (λ (p : Picture). picture_of_items corner (whole ++ gap) ++ p) (run_one e);
    }
    in
    subst (λ (i : Item). IsReadTo corner ((items ++ i ∷ []) ++ gap) next (seen ++ e ∷ [])) (sym (run_item corner items run seen item read tag count))
    (subst (λ (r : Run). IsReadTo corner (whole ++ gap) r (seen ++ e ∷ [])) (run_same (begun e) next (sym from) (sym past) (sym state)) begins)

-- the first run, after a gap that was put
pub read-first : (corner : Point) (left : ℤ) (none items : List Item) (run : Run) (e : Point × ℕ) → left ≡ corner.x → none ≡ [] → PutsGap left corner e.0 none items → 0 < e.1
    → run.from ≡ e.0 → run.past ≡ e.0.x +ℤ pos 1 → run.state ≡ e.1 → IsReadTo corner items run (e ∷ [])
read-first corner left none items run e at empty (gap, leads, put) live from past state =
    subst (λ (l : List Item). IsReadTo corner l run (e ∷ [])) (sym (put ∙ ap (λ (l : List Item). l ++ gap) empty))
    (first_run corner gap run e (subst (λ (x : ℤ). IsItemGap x corner e.0 gap) at leads) live from past state)

-- the next run, after a gap that was put after the item of the one before
pub read-next : (corner : Point) (left : ℤ) (items mid new : List Item) (run next : Run) (seen : Picture) (e : Point × ℕ) (item : Item) (after : Point) → IsReadTo corner items run seen
    → item.tag ≡ Cell run.state → run.past ≡ run.from.x +ℤ pos item.count → after.y ≡ run.from.y → after.x ≡ run.past → mid ≡ items ++ item ∷ []
    → left ≡ corner.x → PutsGap left after e.0 mid new → 0 < e.1 → (e.0.y ≡ run.from.y → e.0.x ≡ run.past → e.1 ≢ run.state)
    → next.from ≡ e.0 → next.past ≡ e.0.x +ℤ pos 1 → next.state ≡ e.1
    → IsReadTo corner new next (seen ++ e ∷ [])
read-next corner left items mid new run next seen e item after read tag count row column pushed at (gap, leads, put) live apart from past state =
    subst (λ (l : List Item). IsReadTo corner l next (seen ++ e ∷ [])) (sym (put ∙ ap (λ (l : List Item). l ++ gap) pushed))
    (next_run corner items gap run next seen e item after read tag count row column (subst (λ (x : ℤ). IsItemGap x after e.0 gap) at leads) live
    (λ same z. apart (ap (λ (p : Point). p.y) same ∙ row) (ap (λ (p : Point). p.x) same ∙ column) (sym z)) from past state)

-- the last run
read-end : (corner : Point) (items : List Item) (run : Run) (seen : Picture) (item : Item) → IsReadTo corner items run seen
    → item.tag ≡ Cell run.state → run.past ≡ run.from.x +ℤ pos item.count
    → AreTidy (items ++ item ∷ []) × (picture_of_items corner (items ++ item ∷ []) ≡ seen)
read-end corner items run seen item read tag count =
    subst (λ (i : Item). AreTidy (items ++ i ∷ []) × (picture_of_items corner (items ++ i ∷ []) ≡ seen)) (sym (run_item corner items run seen item read tag count))
    (tidy-end items run.state read.count read.before read.live read.some, run_shown corner items run seen read)

-- a list that is those and the last run's item
pub read-last : (corner : Point) (items all : List Item) (run : Run) (seen : Picture) (item : Item) → IsReadTo corner items run seen
    → item.tag ≡ Cell run.state → run.past ≡ run.from.x +ℤ pos item.count → all ≡ items ++ item ∷ [] → AreTidy all × (picture_of_items corner all ≡ seen)
read-last corner items all run seen item read tag count whole =
    subst (λ (is : List Item). AreTidy is × (picture_of_items corner is ≡ seen)) (sym whole) (read-end corner items run seen item read tag count)

-- ---- a `for` over the cells of a plane

-- the cells before those that are left are read, and those are ahead of the place after the run
pub record IsReadBefore (p : Picture) (corner : Point) (items : List Item) (run : Run) (left : Picture) : Type 0 where
  pub seen : Picture
  pub split : p ≡ seen ++ left
  pub read : IsReadTo corner items run seen
  pub ahead : AreAhead (record { y = run.from.y; x = run.past }) left

-- what a turn knows of its cell
pub record IsNext (corner : Point) (e : Point × ℕ) : Type 0 where
  pub live : 0 < e.1
  pub right : corner.x ≤ℤ e.0.x
  pub below : corner.y ≤ℤ e.0.y
  pub end : e.0.x ≤ℤ pos (2 ^ 62)

next_at : (p xs u : Picture) (corner : Point) (e : Point × ℕ) → IsSparse p → IsCorner p corner → p ≡ xs ++ e ∷ u → IsNext corner e
next_at p xs u corner e sparse after split =
    let listed = IsListed-at p xs u e sparse split in
    let at = after e.0.x e.0.y (λ z. let low = listed.low in omega (arith, sym listed.shown ∙ z)) in
    record { live = listed.low; right = at.0; below = at.1; end = listed.within.1 }

first_split : (p t u : Picture) (r : Option (Point × ℕ)) (e : Point × ℕ) → t ≡ p → r ≡ Some e → YieldsFirst (λ c. c) t r u → p ≡ e ∷ u
first_split p t u r e start some step = sym start ∙ rest_more (λ e. e) t u r e some step

turn_split : (p t u : Picture) (corner : Point) (items : List Item) (run : Run) (r : Option (Point × ℕ)) (e : Point × ℕ) (before : IsReadBefore p corner items run t)
    → r ≡ Some e → YieldsFirst (λ c. c) t r u → p ≡ before.seen ++ e ∷ u
turn_split p t u corner items run r e before some step = before.split ∙ ap (λ ys. before.seen ++ ys) (rest_more (λ e. e) t u r e some step)

-- the first cell
pub next-first : (p t u : Picture) (corner : Point) (r : Option (Point × ℕ)) (e : Point × ℕ) → IsSparse p → IsCorner p corner → t ≡ p → r ≡ Some e → YieldsFirst (λ c. c) t r u → IsNext corner e
next-first p t u corner r e sparse after start some step = next_at p [] u corner e sparse after (first_split p t u r e start some step)

-- the cell of a turn
pub next-turn : (p t u : Picture) (corner : Point) (items : List Item) (run : Run) (r : Option (Point × ℕ)) (e : Point × ℕ) → IsSparse p → IsCorner p corner
    → IsReadBefore p corner items run t → r ≡ Some e → YieldsFirst (λ c. c) t r u → IsNext corner e
next-turn p t u corner items run r e sparse after before some step = next_at p before.seen u corner e sparse after (turn_split p t u corner items run r e before some step)

-- after the first cell
pub before-first_run : (p t u : Picture) (corner : Point) (items : List Item) (run : Run) (r : Option (Point × ℕ)) (e : Point × ℕ) → IsSparse p → t ≡ p → r ≡ Some e → YieldsFirst (λ c. c) t r u
    → run.from.y ≡ e.0.y → run.past ≡ e.0.x +ℤ pos 1 → IsReadTo corner items run (e ∷ []) → IsReadBefore p corner items run u
before-first_run p t u corner items run r e sparse start some step row past read =
    let split = first_split p t u r e start some step in
    record { seen = e ∷ []; split = split; read = read; ahead = ahead_after p [] u e _ sparse split row past }

-- after one more cell
pub before-turn : (p t u : Picture) (corner : Point) (items new : List Item) (run next : Run) (r : Option (Point × ℕ)) (e : Point × ℕ) → IsSparse p → (before : IsReadBefore p corner items run t)
    → r ≡ Some e → YieldsFirst (λ c. c) t r u → next.from.y ≡ e.0.y → next.past ≡ e.0.x +ℤ pos 1 → IsReadTo corner new next (before.seen ++ e ∷ []) → IsReadBefore p corner new next u
before-turn p t u corner items new run next r e sparse before some step row past read =
    let split = turn_split p t u corner items run r e before some step in
    record {
      seen = before.seen ++ e ∷ [];
      split = split ∙ sym (append_assoc before.seen (e ∷ []) u);
      read = read;
      ahead = ahead_after p before.seen u e _ sparse split row past;
    }

-- after the last cell
pub before-end : (p t u : Picture) (corner : Point) (items : List Item) (run : Run) (r : Option (Point × ℕ)) → IsReadBefore p corner items run t → r ≡ None → YieldsFirst (λ c. c) t r u → IsReadTo corner items run p
before-end p t u corner items run r before none step =
    let all : p ≡ before.seen = before.split ∙ ap (λ ys. before.seen ++ ys) (rest_all (λ e. e) t u r none step) ∙ append-nil before.seen in
    subst (IsReadTo corner items run) (sym all) before.read
