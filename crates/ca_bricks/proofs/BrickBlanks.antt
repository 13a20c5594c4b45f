-- Bricks round which no cell is live: they are blank next.
use Rattle.std.proofs.Common.{◌≡◌, ℕ, zero, suc, ◌+◌, ◌-◌, ◌<◌, inl, inr, ◌⊎◌, List, [], get_or, length, refl, sym, ap, ◌∙◌, arith, slice_index}
use Rattle.std.specs.Prelude.{pos, ◌+ℤ◌, replicate}
use Rattle.std.specs.Int.{bit_at}
use Rattle.ca_plane.specs.Prelude.{row_cells}
use Rattle.ca_plane.proofs.Numbers.{below_or_not}
use Rattle.ca_bricks.specs.Prelude.{GoesByCells, round_at, column_at, next_cell_at, IsNextBrick, IsSameRound, IsUnseen, HasNeighbours, HasBlankEdge, IsBlank, IsBlankRound}
use Rattle.ca_bricks.specs.declared.cell_rule.CellRule.{CellRule}
use Rattle.ca_plane.proofs.After.{after_dead}
use Rattle.ca_bricks.proofs.BrickEdges.{next_shows}
use Rattle.ca_bricks.proofs.BrickLists.{zeros_blank}
use Rattle.ca_bricks.proofs.BrickRounds.{round_at-middle, round_at-east, column_at-middle, column_at-south}
use Rattle.ca_bricks.proofs.BrickRows.{wide_bit-lt}

-- a brick has others on all sides, or not
neighbours_or_not : (across count t : ℕ) → HasNeighbours across count t ⊎ (HasNeighbours across count t → ⊥)
neighbours_or_not across count t = elim (below_or_not across t) [
  | inr low ↦ inr (λ has. omega (arith, has.before, low))
  | inl before ↦ elim (below_or_not (t + across + 1) count) [
    | inl behind ↦ inl (record { before = before; behind = behind })
    | inr end ↦ inr (λ has. omega (arith, has.behind, end))
  ]
]

module _ (across : ℕ) (bricks : List (List ℕ)) (t : ℕ) (edge : HasBlankEdge across bricks)
    (unseen : (s : ℕ) → HasNeighbours across (length bricks) s → IsUnseen across s (replicate 16 0) (get_or bricks s []) t) where
  -- a cell of a brick that is seen
  dead : (n r x : ℕ) → r < 16 → x < 64 → (HasNeighbours across (length bricks) n → bit_at (slice_index (get_or bricks n []) r) x ≡ bit_at (slice_index (replicate 16 0) r) x)
      → bit_at (slice_index (get_or bricks n []) r) x ≡ 0
  dead n r x h k seen = elim (neighbours_or_not across (length bricks) n) [
    | inl has ↦ seen has ∙ zeros_blank x r k h
    | inr not ↦ edge n not x r k h
  ]

  -- a cell of a column that is seen
  column_dead : (u y x : ℕ) → y < 18 → x < 64
      → (HasNeighbours across (length bricks) (u - across) → bit_at (slice_index (get_or bricks (u - across) []) 15) x ≡ bit_at (slice_index (replicate 16 0) 15) x)
      → (HasNeighbours across (length bricks) u → (r : ℕ) → r < 16 → bit_at (slice_index (get_or bricks u []) r) x ≡ bit_at (slice_index (replicate 16 0) r) x)
      → (HasNeighbours across (length bricks) (u + across) → bit_at (slice_index (get_or bricks (u + across) []) 0) x ≡ bit_at (slice_index (replicate 16 0) 0) x)
      → bit_at (column_at across bricks u y) x ≡ 0
  column_dead u zero x h k north here south = dead (u - across) 15 x (omega arith) k north
  column_dead u (suc y) x h k north here south = elim (below_or_not y 16) [
    | inl near ↦ ap (λ w. bit_at w x) (column_at-middle across bricks u y near) ∙ dead u y x near k (λ has. here has y near)
    | inr far ↦ ap (λ w. bit_at w x) (column_at-south across bricks u y far) ∙ dead (u + across) 0 x (omega arith) k south
  ]

  -- where what isn't blank isn't seen, all that is seen is blank
  pub blank_round : IsBlankRound across bricks t
  blank_round zero y h k =
      column_dead (t - 1) y 63 k (omega arith) (λ has. (unseen (t - 1 - across) has).north_west refl) (λ has. (unseen (t - 1) has).west refl) (λ has. (unseen (t - 1 + across) has).south_west refl)
  blank_round (suc x) y h k = elim (below_or_not x 64) [
    | inl near ↦
        round_at-middle across bricks t x y near
        ∙ column_dead t y x k near (λ has. ap (λ w. bit_at w x) ((unseen (t - across) has).north refl)) (λ has r low. ap (λ w. bit_at w x) ((unseen t has).here refl r low))
        (λ has. ap (λ w. bit_at w x) ((unseen (t + across) has).south refl))
    | inr far ↦
        round_at-east across bricks t x y far
        ∙ column_dead (t + 1) y 0 k (omega arith) (λ has. (unseen (t + 1 - across) has).north_east refl) (λ has. (unseen (t + 1) has).east refl) (λ has. (unseen (t + 1 + across) has).south_east refl)
  ]

module _ (across : ℕ) (bricks : List (List ℕ)) (blank : (s : ℕ) → IsBlank (get_or bricks s [])) where
  -- a cell of a column of blank bricks
  column_blank : (u y x : ℕ) → y < 18 → x < 64 → bit_at (column_at across bricks u y) x ≡ 0
  column_blank u zero x h k = blank (u - across) x 15 k (omega arith)
  column_blank u (suc y) x h k = elim (below_or_not y 16) [
    | inl near ↦ ap (λ w. bit_at w x) (column_at-middle across bricks u y near) ∙ blank u x y k near
    | inr far ↦ ap (λ w. bit_at w x) (column_at-south across bricks u y far) ∙ blank (u + across) x 0 k (omega arith)
  ]

  -- where all bricks are blank, so is what each sees
  pub all_blank_round : (t : ℕ) → IsBlankRound across bricks t
  all_blank_round t zero y h k = column_blank (t - 1) y 63 k (omega arith)
  all_blank_round t (suc x) y h k = elim (below_or_not x 64) [
    | inl near ↦ round_at-middle across bricks t x y near ∙ column_blank t y x k near
    | inr far ↦ round_at-east across bricks t x y far ∙ column_blank (t + 1) y 0 k (omega arith)
  ]

-- what is seen of a brick begins with its own cells
pub own_cells : (across : ℕ) (bricks : List (List ℕ)) (t x y : ℕ) → x < 64 → y < 16 → round_at across bricks t (suc x) (suc y) ≡ row_cells (get_or bricks t []) x y
own_cells across bricks t x y h k = round_at-middle across bricks t x (suc y) h ∙ ap (λ w. bit_at w x) (column_at-middle across bricks t y k)

-- a brick round which no cell is live is blank next
pub blank_next : (next : List ℕ → ℕ) (rule : CellRule) → GoesByCells next rule → next (replicate 9 0) ≡ 0 → (across : ℕ) (bricks : List (List ℕ)) (t : ℕ) → IsBlankRound across bricks t
    → (x y : ℕ) → x < 64 → y < 16 → next_cell_at rule (round_at across bricks t) x y ≡ 0
blank_next next rule goes_by quiet across bricks t blank x y h k =
    next_shows next rule goes_by (λ _ _. 0) (round_at across bricks t) (pos 0) (pos 0)
    (λ u v. wide_bit-lt (column_at across bricks (t - 1) v) (column_at across bricks t v) (column_at across bricks (t + 1) v) u) blank x y h k
    ∙ after_dead next (λ _ _. 0) quiet 1 (pos 0 +ℤ pos x) (pos 0 +ℤ pos y) (λ _ _ _. refl)

-- so it rests where it was blank before
pub blank_rests : (next : List ℕ → ℕ) (rule : CellRule) → GoesByCells next rule → next (replicate 9 0) ≡ 0 → (across : ℕ) (now before : List (List ℕ)) (t : ℕ) → IsBlankRound across now t
    → IsBlank (get_or before t []) → IsNextBrick rule across now before t
blank_rests next rule goes_by quiet across now before t round blank = record { cells = λ x y h k. blank x y h k ∙ sym (blank_next next rule goes_by quiet across now t round x y h k) }

-- and so does a brick that sees nothing of two generations, the first after a blank one
pub blank_again : (next : List ℕ → ℕ) (rule : CellRule) → GoesByCells next rule → next (replicate 9 0) ≡ 0 → (across : ℕ) (before now later : List (List ℕ)) (t : ℕ)
    → ((s : ℕ) → IsBlank (get_or before s [])) → IsBlankRound across now t → IsSameRound across before later t → IsNextBrick rule across later now t
blank_again next rule goes_by quiet across before now later t blank round same =
    blank_rests next rule goes_by quiet across later now t (λ x y h k. same.cells x y h k ∙ all_blank_round across before blank t x y h k)
    (λ x y h k. sym (own_cells across now t x y h k) ∙ round (suc x) (suc y) (omega arith) (omega arith))
