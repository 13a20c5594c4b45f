-- The picture of items in range lists its cells in rising order, and what that tells of them.
use Rattle.std.proofs.Common.{◌≡◌, ◌≢◌, ℕ, zero, suc, ◌+◌, ◌-◌, ◌<◌, ◌≤◌, ℤ, pos, ◌+ℤ◌, ◌≤ℤ◌, ◌<ℤ◌, ◌==◌, false, List, [], ◌∷◌, ◌++◌, map, Ordering, Less, Equal, Greater, inl, inr, refl, sym, ap, subst, ◌∙◌, append_assoc, arith}
use Rattle.std.specs.Prelude.{if◌then◌else◌}
use Rattle.std.specs.List.{AllByRecursion, range_with_len}
use Rattle.std.specs.List.Sorted.{IsStrictlySortedBy}
use Rattle.std.specs.Ordering.{int_cmp, ordering_then, MatchOrdering}
use Rattle.std.proofs.lemmas.Bool.{cases_Bool, cases_eq, eqb-false}
use Rattle.std.proofs.lemmas.Cmp.{int_ranked}
use Rattle.std.proofs.lemmas.Int.{ints}
use Rattle.std.proofs.lemmas.List.Elements.{All-from_recursion}
use Rattle.ca_plane.specs.declared.point.Point.{Point}
use Rattle.ca_plane.specs.Prelude.{IsInRange, Picture, IsPicture, cell, IsInPlane, IsSparse, point_cmp}
use Rattle.ca_plane.proofs.Elements.{all_append, all_weaker}
use Rattle.ca_plane.proofs.Pictures.{cell-All, IsListed-at}
use Rattle.ca_rle.specs.declared.item.Item.{Item}
use Rattle.ca_rle.specs.declared.item.Tag.TheVariants.{Cell, RowEnd}
use Rattle.ca_rle.specs.Prelude.{tag_state, greatest_state, run_of, place_after, item_cells, picture_after, picture_of_items}
use Rattle.ca_rle.specs.inner.RunByRun.{IsAhead}
use Rattle.ca_rle.proofs.CellRuns.{all_run}
use Rattle.ca_rle.proofs.DrawnItems.{next_place, place_after-push}
use Rattle.ca_rle.proofs.Gaps.{nonzero}
use Rattle.ca_rle.proofs.RunByRun.{AreAhead}

-- the points of a picture rise
abbrev Rises : Picture → Type 0
Rises p = IsStrictlySortedBy point_cmp (map (λ e. e.0) p)

-- one cell of a run
abbrev pub run_cell : ℕ → Point → ℕ → Point × ℕ
run_cell state at k = (record { y = at.y; x = at.x +ℤ pos k }, state)

less_from : (r s : Ordering) (a b c d : ℤ) → MatchOrdering r (a <ℤ b) (a ≡ b) (b <ℤ a) → MatchOrdering s (c <ℤ d) (c ≡ d) (d <ℤ c) → a ≤ℤ b → (b ≡ a → (c +ℤ pos 1) ≤ℤ d) → ordering_then r s ≡ Less
less_from Less s a b c d row column below right = refl
less_from Equal Less a b c d row column below right = refl
less_from Equal Equal a b c d row column below right = let next = right (sym row) in absurd (omega (arith, ints, column, next))
less_from Equal Greater a b c d row column below right = let next = right (sym row) in absurd (omega (arith, ints, column, next))
less_from Greater s a b c d row column below right = absurd (omega (arith, ints, row, below))

-- a point ahead of the place after another comes after that
ahead_less : (p at q : Point) → at.y ≡ p.y → at.x ≡ p.x +ℤ pos 1 → IsAhead at q → point_cmp p q ≡ Less
ahead_less p at q row column ahead =
    less_from (int_cmp p.y q.y) (int_cmp p.x q.x) p.y q.y p.x q.x (int_ranked p.y q.y _ refl) (int_ranked p.x q.x _ refl) (omega (arith, ints, row, ahead.row))
    (λ same. let right = ahead.column (same ∙ sym row) in omega (arith, ints, right, column))

all_less : (p at : Point) (qs : List Point) → at.y ≡ p.y → at.x ≡ p.x +ℤ pos 1 → AllByRecursion (λ q. IsAhead at q) qs → AllByRecursion (λ q. point_cmp p q ≡ Less) qs
all_less p at [] row column ahead = tt
all_less p at (q ∷ qs) row column ahead = (ahead_less p at q row column ahead.0, all_less p at qs row column ahead.1)

-- what is ahead of a place in a row is ahead of each place to its left there
ahead_left : (at to : Point) (qs : List Point) → to.y ≡ at.y → to.x ≤ℤ at.x → AllByRecursion (λ q. IsAhead at q) qs → AllByRecursion (λ q. IsAhead to q) qs
ahead_left at to qs row column = all_weaker (λ q. IsAhead at q) (λ q. IsAhead to q)
    (λ q ahead. record { row = omega (arith, ints, ahead.row, row); column = λ same. let right = ahead.column (same ∙ row) in omega (arith, ints, right, column) }) qs

-- what is ahead of a place further down is ahead of each place above
ahead_up : (at to : Point) (qs : List Point) → to.y <ℤ at.y → AllByRecursion (λ q. IsAhead at q) qs → AllByRecursion (λ q. IsAhead to q) qs
ahead_up at to qs above = all_weaker (λ q. IsAhead at q) (λ q. IsAhead to q)
    (λ q ahead. record { row = omega (arith, ints, ahead.row, above); column = λ same. absurd (omega (arith, ints, ahead.row, above, same)) }) qs

-- cells that rise and are ahead of a place
pub record RisesFrom (at : Point) (p : Picture) : Type 0 where
  pub rises : Rises p
  pub ahead : AreAhead at p

-- a run before cells that are ahead of its end
run_rises : (state : ℕ) (at : Point) (a n : ℕ) (rest : Picture) → RisesFrom (record { y = at.y; x = at.x +ℤ pos (a + n) }) rest
    → RisesFrom (record { y = at.y; x = at.x +ℤ pos a }) (map (run_cell state at) (range_with_len a n) ++ rest)
unfolding IsStrictlySortedBy
run_rises state at a zero rest r = record { rises = r.rises; ahead = ahead_left _ _ (map (λ e. e.0) rest) refl (omega (arith, ints)) r.ahead }
run_rises state at a (suc n) rest r =
    let here : Point = record { y = at.y; x = at.x +ℤ pos a } in
    let next : Point = record { y = at.y; x = at.x +ℤ pos (a + 1) } in
    let end : Point = record { y = at.y; x = at.x +ℤ pos ((a + 1) + n) } in
    let later = run_rises state at (a + 1) n rest (record { rises = r.rises; ahead = ahead_left _ end (map (λ e. e.0) rest) refl (omega (arith, ints)) r.ahead }) in
    let tail = map (λ e. e.0) (map (run_cell state at) (range_with_len (a + 1) n) ++ rest) in
    record {
      rises = (all_less here next tail refl (omega (arith, ints)) later.ahead, later.rises);
      ahead = (record { row = omega (arith, ints); column = λ same. omega (arith, ints) }, ahead_left next here tail refl (omega (arith, ints)) later.ahead);
    }

-- an item before cells that are ahead of the place after it
item_rises : (corner at : Point) (i : Item) (rest : Picture) → 0 < i.count → RisesFrom (next_place corner at i) rest
    → RisesFrom at ((if tag_state i.tag == 0 then [] else run_of (tag_state i.tag) at i.count) ++ rest)
item_rises corner at i rest some r = by_tag i.tag refl
  where
    by_tag : (t : _) → i.tag ≡ t → RisesFrom at ((if tag_state i.tag == 0 then [] else run_of (tag_state i.tag) at i.count) ++ rest)
    by_tag RowEnd e =
        let from = subst (λ t. RisesFrom (next_place corner at (record { count = i.count; tag = t })) rest) e r in
        rw e (record { rises = from.rises; ahead = ahead_up _ at (map (λ e. e.0) rest) (omega (arith, ints, some)) from.ahead })
    by_tag (Cell s) e =
        let from = subst (λ t. RisesFrom (next_place corner at (record { count = i.count; tag = t })) rest) e r in
        elim (cases_Bool (s == 0)) [
          | inl z ↦ rw (e, z) (record { rises = from.rises; ahead = ahead_left _ at (map (λ e. e.0) rest) refl (omega (arith, ints)) from.ahead })
          | inr z ↦
              let run = run_rises s at 0 i.count rest (record { rises = from.rises; ahead = ahead_left _ _ (map (λ e. e.0) rest) refl (omega (arith, ints)) from.ahead }) in
              rw (e, z) (record { rises = run.rises; ahead = ahead_left _ at _ refl (omega (arith, ints)) run.ahead })
        ]

-- the picture of items rises from the place where they begin
pub picture_rises : (corner : Point) (before is : List Item) → AllByRecursion (λ i. 0 < i.count) is → RisesFrom (place_after corner before) (picture_after corner before is)
unfolding IsStrictlySortedBy
picture_rises corner before [] some = record { rises = tt; ahead = tt }
picture_rises corner before (i ∷ is) some =
    item_rises corner (place_after corner before) i (picture_after corner (before ++ i ∷ []) is) some.0
    (subst (λ (at : Point). RisesFrom at (picture_after corner (before ++ i ∷ []) is)) (place_after-push corner before i) (picture_rises corner (before ++ i ∷ []) is some.1))

-- ---- states

-- the states of an item's cells are the item's
item_all : (P : ℕ → Type 0) (corner : Point) (before : List Item) (i : Item) → (0 < tag_state i.tag → P (tag_state i.tag)) → AllByRecursion (λ e. P e.1) (item_cells corner before i)
item_all P corner before i holds =
    elim (cases_Bool (tag_state i.tag == 0)) [
      | inl e ↦ rw e tt
      | inr e ↦ let some = eqb-false (tag_state i.tag) 0 e in rw e (all_run (λ e. P e.1) _ 0 i.count (λ k l. holds (omega arith)))
    ]

pub picture_states : (n : ℕ) (corner : Point) (before is : List Item) → greatest_state is ≤ n → AllByRecursion (λ e. (1 ≤ e.1) × (e.1 ≤ n)) (picture_after corner before is)
picture_states n corner before [] low = tt
picture_states n corner before (i ∷ is) low =
    all_append (λ e. (1 ≤ e.1) × (e.1 ≤ n)) (item_cells corner before i) (picture_after corner (before ++ i ∷ []) is)
    (item_all (λ s. (1 ≤ s) × (s ≤ n)) corner before i (λ some. (omega arith, omega (arith, low)))) (picture_states n corner (before ++ i ∷ []) is (omega (arith, low)))

pub picture_is : (corner : Point) (before is : List Item) → greatest_state is ≤ 255 → IsPicture (picture_after corner before is)
picture_is corner before is low = All-from_recursion (λ e. (1 ≤ e.1) × (e.1 ≤ 255)) (picture_after corner before is) (picture_states 255 corner before is low)

-- so in range it is what a sparse plane keeps
pub picture_sparse : (corner : Point) (is : List Item) → AllByRecursion (λ i. 0 < i.count) is → greatest_state is ≤ 255 → AllByRecursion (λ e. IsInRange e.0) (picture_of_items corner is)
    → IsSparse (picture_of_items corner is)
picture_sparse corner is some low range = record {
  states = picture_is corner [] is low;
  places = All-from_recursion (λ e. IsInPlane e.0) (picture_of_items corner is) (all_weaker (λ e. IsInRange e.0) (λ e. IsInPlane e.0)
      (λ e h. (omega (arith, ints, h.0), omega (arith, ints, h.1), omega (arith, ints, h.2), omega (arith, ints, h.3))) (picture_of_items corner is) range);
  rising = (picture_rises corner [] is some).rises;
}

-- no state is above the greatest
pub states_most : (corner : Point) (is : List Item) (x y : ℤ) → cell (picture_of_items corner is) x y ≤ greatest_state is
states_most corner is x y =
    cell-All (λ s. s ≤ greatest_state is) (picture_of_items corner is) x y (omega arith)
    (All-from_recursion (λ e. e.1 ≤ greatest_state is) (picture_of_items corner is) (all_weaker (λ e. (1 ≤ e.1) × (e.1 ≤ greatest_state is)) (λ e. e.1 ≤ greatest_state is) (λ e h. h.1) (picture_of_items corner is) (picture_states (greatest_state is) corner [] is (omega arith))))

-- a picture lists a cell of this state
record Lists (p : Picture) (state : ℕ) : Type 0 where
  before : Picture
  entry : Point × ℕ
  later : Picture
  split : p ≡ before ++ entry ∷ later
  same : entry.1 ≡ state

-- a run of some cells begins with one
pub run_first : (state : ℕ) (at : Point) (n m : ℕ) (rest : Picture) → n ≡ suc m → run_of state at n ++ rest ≡ run_cell state at 0 ∷ (map (run_cell state at) (range_with_len 1 m) ++ rest)
run_first state at n m rest same = rw same refl

lists_greatest : (n : ℕ) (corner : Point) (before is : List Item) → 0 < n → greatest_state is ≡ n → AllByRecursion (λ i. 0 < i.count) is → Lists (picture_after corner before is) n
lists_greatest n corner before [] live same some = absurd (omega (arith, live, same))
lists_greatest n corner before (i ∷ is) live same some =
    elim (cases_eq (tag_state i.tag) n) [
      | inl e ↦
          let apart : (tag_state i.tag == 0) ≡ false = rw e (nonzero n live) in
          let rest = picture_after corner (before ++ i ∷ []) is in
          record {
            before = [];
            entry = run_cell (tag_state i.tag) (place_after corner before) 0;
            later = map (run_cell (tag_state i.tag) (place_after corner before)) (range_with_len 1 (i.count - 1)) ++ rest;
            split = rw apart (run_first (tag_state i.tag) (place_after corner before) i.count (i.count - 1) rest (omega (arith, some.0)));
            same = e;
          }
      | inr e ↦
          let other = lists_greatest n corner (before ++ i ∷ []) is live (omega (arith, same, e)) some.1 in
          record {
            before = item_cells corner before i ++ other.before;
            entry = other.entry;
            later = other.later;
            split = ap (λ p. item_cells corner before i ++ p) other.split ∙ sym (append_assoc (item_cells corner before i) other.before (other.entry ∷ other.later));
            same = other.same;
          }
    ]

-- and some cell has it, where it isn't 0
pub greatest_shown : (corner : Point) (is : List Item) → AllByRecursion (λ i. 0 < i.count) is → IsSparse (picture_of_items corner is) → greatest_state is ≢ 0
    → (x : ℤ) × (y : ℤ) × (cell (picture_of_items corner is) x y ≡ greatest_state is)
greatest_shown corner is some sparse live =
    let listed = lists_greatest (greatest_state is) corner [] is (omega (arith, live)) refl some in
    (listed.entry.0.x, listed.entry.0.y, (IsListed-at (picture_of_items corner is) listed.before listed.later listed.entry sparse listed.split).shown ∙ listed.same)
