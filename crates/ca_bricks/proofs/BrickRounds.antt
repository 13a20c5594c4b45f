-- Bricks and the cells round them, where one brick is written.
use Rattle.std.proofs.Common.{◌≡◌, ℕ, zero, suc, ◌+◌, ◌-◌, ◌<◌, ◌≤◌, inl, inr, List, [], length, get_or, refl, sym, ap, ap₂, ◌∙◌, arith, slice_index, slice_set}
use Rattle.std.specs.Int.{bit_at}
use Rattle.std.proofs.lemmas.Bool.{cases_eq, cond_below, cond_above}
use Rattle.std.proofs.lemmas.List.{get_or-set_other}
use Rattle.std.proofs.lemmas.Grind.{get_or-set_at}
use Rattle.ca_plane.specs.Prelude.{row_cells}
use Rattle.ca_plane.proofs.Numbers.{below_or_not}
use Rattle.ca_bricks.specs.Prelude.{next_by_count, nine_at, diagram_next, column_at, round_at, next_cell_at, IsNextBrick, IsSameRound, IsUnseen, HasNeighbours, IsNotAhead, round_cells}
use Rattle.ca_bricks.specs.declared.{cell_rule.CellRule.CellRule, round.Round.Round}
use Rattle.ca_bricks.specs.declared.cell_rule.CellRule.TheVariants.{ByCounting, ByDiagram}
use Rattle.ca_bricks.proofs.NeighbourSums.{sum_round-same}

-- ---- where a cell beside a brick stands

pub column_at-middle : (across : ℕ) (bricks : List (List ℕ)) (t y : ℕ) → y < 16 → column_at across bricks t (suc y) ≡ slice_index (get_or bricks t []) y
column_at-middle across bricks t y h = sym (cond_below y 16 (slice_index (get_or bricks t []) y) (slice_index (get_or bricks (t + across) []) 0) h)

pub column_at-south : (across : ℕ) (bricks : List (List ℕ)) (t y : ℕ) → 16 ≤ y → column_at across bricks t (suc y) ≡ slice_index (get_or bricks (t + across) []) 0
column_at-south across bricks t y h = let south = slice_index (get_or bricks (t + across) []) 0 in sym (cond_above y 16 (slice_index (get_or bricks t []) y) south south h refl)

pub round_at-middle : (across : ℕ) (bricks : List (List ℕ)) (t x y : ℕ) → x < 64 → round_at across bricks t (suc x) y ≡ bit_at (column_at across bricks t y) x
round_at-middle across bricks t x y h = sym (cond_below x 64 (bit_at (column_at across bricks t y) x) (bit_at (column_at across bricks (t + 1) y) 0) h)

pub round_at-east : (across : ℕ) (bricks : List (List ℕ)) (t x y : ℕ) → 64 ≤ x → round_at across bricks t (suc x) y ≡ bit_at (column_at across bricks (t + 1) y) 0
round_at-east across bricks t x y h = let east = bit_at (column_at across bricks (t + 1) y) 0 in sym (cond_above x 64 (bit_at (column_at across bricks t y) x) east east h refl)

-- ---- bricks that rest

-- the next state of a cell goes by the nine cells round it
next_by_nine : (rule : CellRule) (f g : ℕ → ℕ → ℕ) (x y : ℕ) → f (suc x) (suc y) ≡ g (suc x) (suc y) → nine_at f x y ≡ nine_at g x y → next_cell_at rule f x y ≡ next_cell_at rule g x y
next_by_nine (ByCounting counting) f g x y here nine = ap₂ (next_by_count counting.birth counting.survival) here (sum_round-same counting.neighbourhood f g x y nine)
next_by_nine (ByDiagram diagram) f g x y here nine = ap (diagram_next diagram.nodes.items) nine

pub next_cell_at-same : (rule : CellRule) (f g : ℕ → ℕ → ℕ) (x y : ℕ) → ((u v : ℕ) → x ≤ u → u ≤ suc (suc x) → y ≤ v → v ≤ suc (suc y) → f u v ≡ g u v) → next_cell_at rule f x y ≡ next_cell_at rule g x y
next_cell_at-same rule f g x y same =
    let nw = same x y (omega arith) (omega arith) (omega arith) (omega arith) in
    let n = same (suc x) y (omega arith) (omega arith) (omega arith) (omega arith) in
    let ne = same (suc (suc x)) y (omega arith) (omega arith) (omega arith) (omega arith) in
    let w = same x (suc y) (omega arith) (omega arith) (omega arith) (omega arith) in
    let here = same (suc x) (suc y) (omega arith) (omega arith) (omega arith) (omega arith) in
    let e = same (suc (suc x)) (suc y) (omega arith) (omega arith) (omega arith) (omega arith) in
    let sw = same x (suc (suc y)) (omega arith) (omega arith) (omega arith) (omega arith) in
    let s = same (suc x) (suc (suc y)) (omega arith) (omega arith) (omega arith) (omega arith) in
    let se = same (suc (suc x)) (suc (suc y)) (omega arith) (omega arith) (omega arith) (omega arith) in
    let nine : nine_at f x y ≡ nine_at g x y = cc in
    next_by_nine rule f g x y here nine

-- where the brick and the cells round it are the same as before, what came next of them then comes next of them now
pub next_again : (rule : CellRule) (across : ℕ) (old new now : List (List ℕ)) (t : ℕ) → IsNextBrick rule across old now t → IsSameRound across old new t → IsNextBrick rule across new now t
next_again rule across old new now t is_next same = record {
  cells = λ x y h k. is_next.cells x y h k ∙ sym (next_cell_at-same rule (round_at across new t) (round_at across old t) x y (λ u v _ i _ j. same.cells u v (omega arith) (omega arith)));
}

-- ---- a brick that is written

module _ (across s : ℕ) (old : List (List ℕ)) (rows : List ℕ) (long : s < length old) where
  -- a row of a brick, in the light of what can be seen of it
  set_row : (f : ℕ → ℕ) (n r : ℕ) → (n ≡ s → f (slice_index rows r) ≡ f (slice_index (get_or old s []) r)) → f (slice_index (get_or (slice_set old s rows) n []) r) ≡ f (slice_index (get_or old n []) r)
  set_row f n r seen = elim (cases_eq n s) [
    | inl e ↦ ap (λ l. f (slice_index l r)) (get_or-set_at old s n rows [] e long) ∙ seen e ∙ ap (λ m. f (slice_index (get_or old m []) r)) (sym e)
    | inr other ↦ ap (λ l. f (slice_index l r)) (get_or-set_other old s n rows [] other)
  ]

  -- a row of a column, in that light
  set_column : (f : ℕ → ℕ) (t y : ℕ) → y < 18
      → (t - across ≡ s → f (slice_index rows 15) ≡ f (slice_index (get_or old s []) 15))
      → (t ≡ s → (r : ℕ) → r < 16 → f (slice_index rows r) ≡ f (slice_index (get_or old s []) r))
      → (t + across ≡ s → f (slice_index rows 0) ≡ f (slice_index (get_or old s []) 0))
      → f (column_at across (slice_set old s rows) t y) ≡ f (column_at across old t y)
  set_column f t zero h north here south = set_row f (t - across) 15 north
  set_column f t (suc y) h north here south = elim (below_or_not y 16) [
    | inl near ↦ ap f (column_at-middle across (slice_set old s rows) t y near) ∙ set_row f t y (λ e. here e y near) ∙ ap f (sym (column_at-middle across old t y near))
    | inr far ↦ ap f (column_at-south across (slice_set old s rows) t y far) ∙ set_row f (t + across) 0 south ∙ ap f (sym (column_at-south across old t y far))
  ]

  -- where nothing that changed is seen, the brick and the cells round it stay the same
  pub same_where_unseen : (t : ℕ) → IsUnseen across s (get_or old s []) rows t → IsSameRound across old (slice_set old s rows) t
  same_where_unseen t unseen = record { cells = λ x y h k. at x y h k }
    where
      at : (x y : ℕ) → x < 66 → y < 18 → round_at across (slice_set old s rows) t x y ≡ round_at across old t x y
      at zero y h k = set_column (λ w. bit_at w 63) (t - 1) y k unseen.north_west unseen.west unseen.south_west
      at (suc x) y h k = elim (below_or_not x 64) [
        | inl near ↦
            round_at-middle across (slice_set old s rows) t x y near
            ∙ ap (λ w. bit_at w x) (set_column (λ w. w) t y k unseen.north unseen.here unseen.south)
            ∙ sym (round_at-middle across old t x y near)
        | inr far ↦
            round_at-east across (slice_set old s rows) t x y far
            ∙ set_column (λ w. bit_at w 0) (t + 1) y k unseen.north_east unseen.east unseen.south_east
            ∙ sym (round_at-east across old t x y far)
      ]

-- what stays the same twice stays the same
pub same_again : (across : ℕ) (a b c : List (List ℕ)) (t : ℕ) → IsSameRound across a b t → IsSameRound across b c t → IsSameRound across a c t
same_again across a b c t h k = record { cells = λ x y i j. k.cells x y i j ∙ h.cells x y i j }

-- ---- one brick more

-- what comes next by the cells of a round comes next of the brick that they are
pub next_of_round : (rule : CellRule) (across : ℕ) (now : List (List ℕ)) (t : ℕ) (round : Round) (rows : List ℕ) → ((x y : ℕ) → y < 18 → round_cells round x y ≡ round_at across now t x y)
    → ((x y : ℕ) → x < 64 → y < 16 → row_cells rows x y ≡ next_cell_at rule (round_cells round) x y) → (x y : ℕ) → x < 64 → y < 16 → row_cells rows x y ≡ next_cell_at rule (round_at across now t) x y
next_of_round rule across now t round rows same made x y h k = made x y h k ∙ next_cell_at-same rule (round_cells round) (round_at across now t) x y (λ u v _ _ _ j. same u v (omega arith))

-- bricks that aren't ahead in the list are one generation on, where the brick at this place of it is written
pub next_more : (rule : CellRule) (across : ℕ) (now mid : List (List ℕ)) (awake : List ℕ) (k s count : ℕ) (rows : List ℕ) → s < length mid → slice_index awake k ≡ s
    → ((x y : ℕ) → x < 64 → y < 16 → row_cells rows x y ≡ next_cell_at rule (round_at across now s) x y)
    → ((t : ℕ) → HasNeighbours across count t → IsNotAhead awake k t → IsNextBrick rule across now mid t)
    → (t : ℕ) → HasNeighbours across count t → IsNotAhead awake (k + 1) t → IsNextBrick rule across now (slice_set mid s rows) t
next_more rule across now mid awake k s count rows long is made so_far t has done = elim (cases_eq t s) [
  | inl same ↦ record {
    cells = λ x y i j. ap (λ l. row_cells l x y) (get_or-set_at mid s t rows [] same long) ∙ made x y i j ∙ ap (λ n. next_cell_at rule (round_at across now n) x y) (sym same);
  }
  | inr other ↦
      let before : IsNotAhead awake k t = λ m low high e. elim (cases_eq m k) [
        | inl here ↦ other (sym e ∙ ap (slice_index awake) here ∙ is)
        | inr there ↦ done m (omega arith) high e
      ] in
      record { cells = λ x y i j. ap (λ l. row_cells l x y) (get_or-set_other mid s t rows [] other) ∙ (so_far t has before).cells x y i j }
]
