-- What bricks of a frame see.
use Rattle.std.proofs.Common.{◌≡◌, ◌≢◌, ℕ, zero, suc, ◌+◌, ◌-◌, ◌*◌, ◌%◌, ◌<◌, ◌⊎◌, inl, inr, List, [], get_or, slice_index, refl, ap, ◌∙◌, arith}
use Rattle.std.specs.Prelude.{replicate}
use Rattle.std.specs.Int.{bit_at}
use Rattle.std.proofs.lemmas.Bool.{cases_eq}
use Rattle.std.proofs.lemmas.Nat.Bits.{bit_at-zero, bit_at_lowest, bit_at_above}
use Rattle.ca_plane.proofs.Numbers.{below_or_not}
use Rattle.ca_plane.specs.Prelude.{counting_next}
use Rattle.ca_plane.specs.declared.counting.{Counting.Counting, Neighbourhood.Neighbourhood}
use Rattle.ca_plane.specs.declared.counting.Neighbourhood.TheVariants.{Moore, VonNeumann, Hexagonal}
use Rattle.ca_bricks.specs.Prelude.{GoesByCells, HasNeighbours, IsBlank, IsNextBrick, column_at}
use Rattle.ca_bricks.specs.declared.cell_rule.CellRule.TheVariants.{ByCounting}
use Rattle.ca_bricks.proofs.BrickBlanks.{blank_rests}
use Rattle.ca_bricks.proofs.BrickRounds.{round_at-middle, round_at-east, column_at-middle, column_at-south}
use Rattle.ca_apgcode.specs.Prelude.{GridCells, IsGrid}
use Rattle.ca_apgcode.proofs.Heights.{pow_most}
use Rattle.ca_apgcode_search.specs.inner.Frames.{IsMiddle, IsFrameOf, IsDarkBeside, frame_row}

-- ---- the bricks beside those in the middle

-- a row of a frame has neither its first bit nor its last
row_edges : (grid : GridCells) (r : ℕ) → IsGrid grid → (bit_at (frame_row grid r) 0 ≡ 0) × (bit_at (frame_row grid r) 63 ≡ 0)
row_edges grid zero is = (bit_at-zero 0, bit_at-zero 63)
row_edges grid (suc r) is =
    let row = slice_index grid.columns r in
    let even : row * 2 % 2 ≡ 0 = omega arith in
    let low = is.rows r in
    let most = pow_most grid.height 40 is.height in
    (bit_at_lowest (row * 2) ∙ even, bit_at_above (row * 2) 63 63 (omega (arith, low, most)) (omega arith))

module _ (grid : GridCells) (bricks : List (List ℕ)) (is_grid : IsGrid grid) (is : IsFrameOf grid bricks) where
  -- no brick has a live cell in its first column or its last
  edges : (s y : ℕ) → y < 16 → (bit_at (slice_index (get_or bricks s []) y) 0 ≡ 0) × (bit_at (slice_index (get_or bricks s []) y) 63 ≡ 0)
  edges s y low = elim (cases_eq s 4) [
    | inl four ↦ middle 0 four (omega arith)
    | inr not_four ↦ elim (cases_eq s 7) [
      | inl seven ↦ middle 1 seven (omega arith)
      | inr not_seven ↦ elim (cases_eq s 10) [
        | inl ten ↦ middle 2 ten (omega arith)
        | inr not_ten ↦
            let blank = is.blank s (λ m. elim m [ inl e ↦ not_four e | inr (inl e) ↦ not_seven e | inr (inr e) ↦ not_ten e ]) in
            (blank 0 y (omega arith) low, blank 63 y (omega arith) low)
      ]
    ]
  ]
    where
      middle : (k : ℕ) → s ≡ 4 + 3 * k → k < 3 → (bit_at (slice_index (get_or bricks s []) y) 0 ≡ 0) × (bit_at (slice_index (get_or bricks s []) y) 63 ≡ 0)
      middle k place few =
          let row = ap (λ t. slice_index (get_or bricks t []) y) place ∙ is.middle k y few low in
          let ends = row_edges grid (16 * k + y) is_grid in
          (ap (λ n. bit_at n 0) row ∙ ends.0, ap (λ n. bit_at n 63) row ∙ ends.1)

  -- nor has a column of bricks there
  column_edges : (u y : ℕ) → y < 18 → (bit_at (column_at 3 bricks u y) 0 ≡ 0) × (bit_at (column_at 3 bricks u y) 63 ≡ 0)
  column_edges u zero low = edges (u - 3) 15 (omega arith)
  column_edges u (suc y) low = elim (below_or_not y 16) [
    | inl near ↦
        let row = column_at-middle 3 bricks u y near in
        let ends = edges u y near in
        (ap (λ n. bit_at n 0) row ∙ ends.0, ap (λ n. bit_at n 63) row ∙ ends.1)
    | inr far ↦
        let row = column_at-south 3 bricks u y far in
        let ends = edges (u + 3) 0 (omega arith) in
        (ap (λ n. bit_at n 0) row ∙ ends.0, ap (λ n. bit_at n 63) row ∙ ends.1)
  ]

  -- a column of bricks beside those in the middle is blank
  column_beside : (u y x : ℕ) → 4 < u → u < 11 → (IsMiddle u → ⊥) → y < 18 → x < 64 → bit_at (column_at 3 bricks u y) x ≡ 0
  column_beside u y x from below other low fits = column y low
    where
      four : u ≢ 4
      four e = other (inl e)

      seven : u ≢ 7
      seven e = other (inr (inl e))

      ten : u ≢ 10
      ten e = other (inr (inr e))

      no_middle : (s : ℕ) → (s ≡ u - 3) ⊎ ((s ≡ u) ⊎ (s ≡ u + 3)) → IsMiddle s → ⊥
      no_middle s place (inl e) = elim place [ inl p ↦ omega (arith, p, e, seven) | inr (inl p) ↦ omega (arith, p, e, four) | inr (inr p) ↦ omega (arith, p, e, from) ]
      no_middle s place (inr (inl e)) = elim place [ inl p ↦ omega (arith, p, e, ten) | inr (inl p) ↦ omega (arith, p, e, seven) | inr (inr p) ↦ omega (arith, p, e, from) ]
      no_middle s place (inr (inr e)) = elim place [ inl p ↦ omega (arith, p, e, below) | inr (inl p) ↦ omega (arith, p, e, ten) | inr (inr p) ↦ omega (arith, p, e, seven) ]

      column : (y : ℕ) → y < 18 → bit_at (column_at 3 bricks u y) x ≡ 0
      column zero h = is.blank (u - 3) (no_middle (u - 3) (inl refl)) x 15 fits (omega arith)
      column (suc y) h = elim (below_or_not y 16) [
        | inl near ↦ ap (λ n. bit_at n x) (column_at-middle 3 bricks u y near) ∙ is.blank u (no_middle u (inr (inl refl))) x y fits near
        | inr far ↦ ap (λ n. bit_at n x) (column_at-south 3 bricks u y far) ∙ is.blank (u + 3) (no_middle (u + 3) (inr (inr refl))) x 0 fits (omega arith)
      ]

  -- so they see no live cell
  pub dark_beside : IsDarkBeside bricks
  dark_beside t has other zero y h k = (column_edges (t - 1) y k).1
  dark_beside t has other (suc x) y h k = elim (below_or_not x 64) [
    | inl near ↦
        let before = has.before in
        let behind = has.behind in
        let four : t ≢ 4 = λ e. other (inl e) in
        round_at-middle 3 bricks t x y near ∙ column_beside t y x (omega (arith, before, four)) (omega (arith, behind)) other k near
    | inr far ↦ round_at-east 3 bricks t x y far ∙ (column_edges (t + 1) y k).0
  ]

-- ---- and rest

-- a counting as a rule
by_itself : (counting : Counting) → GoesByCells (counting_next counting) (ByCounting counting)
by_itself counting = record { goes_by = λ nine size two. refl }

-- nothing is born of nothing where the mask of births is even
quiet_next : (counting : Counting) → counting.birth % 2 ≡ 0 → counting_next counting (replicate 9 0) ≡ 0
quiet_next counting even = none counting.neighbourhood
  where
    none : (counted : Neighbourhood) → counting_next (record counting { neighbourhood = counted }) (replicate 9 0) ≡ 0
    none Moore = bit_at_lowest counting.birth ∙ even
    none VonNeumann = bit_at_lowest counting.birth ∙ even
    none Hexagonal = bit_at_lowest counting.birth ∙ even

pub dark_rests : (counting : Counting) (now before : List (List ℕ)) (t : ℕ) → counting.birth % 2 ≡ 0 → IsDarkBeside now → IsBlank (get_or before t []) → HasNeighbours 3 15 t → (IsMiddle t → ⊥) → IsNextBrick (ByCounting counting) 3 now before t
dark_rests counting now before t even dark blank has other = blank_rests (counting_next counting) (ByCounting counting) (by_itself counting) (quiet_next counting even) 3 now before t (dark t has other) blank
