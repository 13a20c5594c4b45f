-- Smallest boxes round the live cells of rows that are columns of planes.
use Rattle.std.proofs.Common.{◌≡◌, ℕ, ◌+◌, ◌-◌, ◌/◌, ◌%◌, ◌^◌, ◌<◌, ◌≤◌, inl, inr, List, [], length, slice_index, get_or, Option, Some, None, IfSome, refl, sym, ap, ap₂, subst, ◌∙◌, ℤ, pos, negsuc, ◌+ℤ◌, ◌-ℤ◌, arith}
use Rattle.std.specs.Int.{bit_at}
use Rattle.std.proofs.lemmas.Bool.{cases_lt}
use Rattle.std.proofs.lemmas.Int.{ints}
use Rattle.std.proofs.lemmas.List.{get_or_past}
use Rattle.std.proofs.lemmas.Nat.{shr-shr, pow_pos}
use Rattle.std.proofs.lemmas.Nat.Bits.{bit_at-zero, bit_at_above}
use Rattle.ca_plane.specs.Prelude.{from_corner}
use Rattle.ca_apgcode.specs.Prelude.{GridCells, IsLeastOf, cell, live, IsBoxRound}
use Rattle.ca_apgcode_search.specs.inner.Frames.{AreColumnsOf}

-- the first columns of a box: the rows from row `first` onwards, without their lowest bits
pub record AreMoved (rows : List ℕ) (first low count : ℕ) (columns : List ℕ) : Type 0 where
  pub size : length columns ≡ count
  pub each : (k : ℕ) → k < count → get_or columns k 0 ≡ slice_index rows (first + k) / 2 ^ low
  pub fits : (k : ℕ) → k < count → get_or columns k 0 < 2 ^ 40

-- all columns fit
pub all_fit : (rows : List ℕ) (first low count : ℕ) (columns : List ℕ) → AreMoved rows first low count columns → (x : ℕ) → get_or columns x 0 < 2 ^ 40
all_fit rows first low count columns are x = elim (cases_lt x count) [
  | inl within ↦ are.fits x within
  | inr past ↦ let size = are.size in subst (λ n. n < 2 ^ 40) (sym (get_or_past columns x 0 (omega (arith, size, past)))) (pow_pos 40)
]

-- a number without the digits from 2^40 onwards
pub short : (n : ℕ) → n / 2 ^ 40 ≡ 0 → n < 2 ^ 40
short n none = omega (arith, none)

dead_west : (cells : ℕ → ℕ → ℕ) (u : ℕ) (y : ℤ) → from_corner cells (negsuc u) y ≡ 0
dead_west cells u (pos y) = refl
dead_west cells u (negsuc y) = refl

-- a plane whose columns are the rows, seen from their corner
as_corner : (rows : List ℕ) → length rows ≡ 48 → ((r : ℕ) → slice_index rows r < 2 ^ 64) → (cells : ℤ → ℤ → ℕ) (left top : ℤ) → AreColumnsOf rows cells left top
    → (x y u v : ℤ) → u ≡ x -ℤ left → v ≡ y -ℤ top → live (cells x y) ≡ from_corner (λ i j. bit_at (slice_index rows i) j) u v
as_corner rows size words cells left top shows x y (negsuc u) v e f = shows.outside x y (inl (omega (arith, ints, e))) ∙ sym (dead_west (λ i j. bit_at (slice_index rows i) j) u v)
as_corner rows size words cells left top shows x y (pos u) (negsuc v) e f = shows.outside x y (inr (inr (inl (omega (arith, ints, f)))))
as_corner rows size words cells left top shows x y (pos u) (pos v) e f = elim (cases_lt u 48) [
  | inl low_u ↦ elim (cases_lt v 64) [
    | inl low_v ↦
        let column : x ≡ left +ℤ pos u = omega (arith, ints, e) in
        let row : y ≡ top +ℤ pos v = omega (arith, ints, f) in
        ap live (ap₂ cells column row) ∙ shows.inside u v low_u low_v
    | inr far ↦ shows.outside x y (inr (inr (inr (omega (arith, ints, f, far))))) ∙ sym (bit_at_above (slice_index rows u) 64 v (words u) far)
  ]
  | inr far ↦ shows.outside x y (inr (inl (omega (arith, ints, e, far)))) ∙ sym (ap (λ n. bit_at n v) (get_or_past rows u 0 (omega (arith, size, far))) ∙ bit_at-zero v)
]

-- the box that is found of them
module _ (rows : List ℕ) (first low count : ℕ) (before : (r : ℕ) → r < first → slice_index rows r ≡ 0) (below : (r i : ℕ) → i < low → bit_at (slice_index rows r) i ≡ 0)
    (rest : (r : ℕ) → first + count ≤ r → slice_index rows r ≡ 0) (columns : List ℕ) (are : AreMoved rows first low count columns) (grid : GridCells) (is : IsLeastOf columns grid) where
  abbrev pub bits : ℕ → ℕ → ℕ
  bits u v = bit_at (slice_index rows u) v

  same_bit : (r i : ℕ) → first ≤ r → low ≤ i → bit_at (slice_index rows r) i ≡ cell grid (r - first) (i - low)
  same_bit r i from high =
      let column : cell grid (r - first) (i - low) ≡ bit_at (get_or columns (r - first) 0) (i - low) = ap (λ n. bit_at n (i - low)) (is.same (r - first)) in
      elim (cases_lt (r - first) count) [
        | inl within ↦
            let place : first + (r - first) ≡ r = omega (arith, from) in
            let sum : low + (i - low) ≡ i = omega (arith, high) in
            sym (column
            ∙ (ap (λ n. bit_at n (i - low)) (are.each (r - first) within ∙ ap (λ k. slice_index rows k / 2 ^ low) place)
            ∙ (ap (λ n. n % 2) (shr-shr (slice_index rows r) low (i - low)) ∙ ap (bit_at (slice_index rows r)) sum)))
        | inr past ↦
            let size = are.size in
            let none : slice_index rows r ≡ 0 = rest r (omega (arith, from, past)) in
            ap (λ n. bit_at n i) none ∙ (bit_at-zero i ∙ sym (column ∙ (ap (λ n. bit_at n (i - low)) (get_or_past columns (r - first) 0 (omega (arith, size, past))) ∙ bit_at-zero (i - low))))
      ]

  same_place : (u v u' v' : ℤ) → u' ≡ u -ℤ pos first → v' ≡ v -ℤ pos low → from_corner bits u v ≡ from_corner (cell grid) u' v'
  same_place (negsuc u) v (pos u') v' e f = absurd (omega (arith, ints, e))
  same_place (negsuc u) v (negsuc u') v' e f = dead_west bits u v ∙ sym (dead_west (cell grid) u' v')
  same_place (pos u) (negsuc v) (negsuc u') v' e f = sym (dead_west (cell grid) u' v')
  same_place (pos u) (negsuc v) (pos u') (pos v') e f = absurd (omega (arith, ints, f))
  same_place (pos u) (negsuc v) (pos u') (negsuc v') e f = refl
  same_place (pos u) (pos v) (negsuc u') v' e f =
      ap (λ n. bit_at n v) (before u (omega (arith, ints, e))) ∙ (bit_at-zero v ∙ sym (dead_west (cell grid) u' v'))
  same_place (pos u) (pos v) (pos u') (negsuc v') e f = below u v (omega (arith, ints, f))
  same_place (pos u) (pos v) (pos u') (pos v') e f =
      let a : u - first ≡ u' = omega (arith, ints, e) in
      let b : v - low ≡ v' = omega (arith, ints, f) in
      same_bit u v (omega (arith, ints, e)) (omega (arith, ints, f)) ∙ ap (λ i. cell grid i (v - low)) a ∙ ap (cell grid u') b

  pub is_box : length rows ≡ 48 → ((r : ℕ) → slice_index rows r < 2 ^ 64) → (cells : ℤ → ℤ → ℕ) (left top : ℤ) → AreColumnsOf rows cells left top → IsBoxRound cells grid
  is_box size words cells left top shows = record {
    left = left +ℤ pos first;
    top = top +ℤ pos low;
    is_grid = is.is_grid;
    is_least = is.is_least;
    same = λ x y. as_corner rows size words cells left top shows x y (x -ℤ left) (y -ℤ top) refl refl ∙ same_place (x -ℤ left) (y -ℤ top) (x -ℤ (left +ℤ pos first)) (y -ℤ (top +ℤ pos low)) (omega (arith, ints)) (omega (arith, ints));
  }

-- if one is found
pub found_box : (rows : List ℕ) → length rows ≡ 48 → ((r : ℕ) → slice_index rows r < 2 ^ 64) → (first low count : ℕ) → ((r : ℕ) → r < first → slice_index rows r ≡ 0) → ((r i : ℕ) → r < 48 → i < low → bit_at (slice_index rows r) i ≡ 0)
    → ((r : ℕ) → first + count ≤ r → r < 48 → slice_index rows r ≡ 0) → (columns : List ℕ) → AreMoved rows first low count columns → (found : Option GridCells) → IfSome found (IsLeastOf columns)
    → (cells : ℤ → ℤ → ℕ) (left top : ℤ) → AreColumnsOf rows cells left top → IfSome found (IsBoxRound cells)
found_box rows size words first low count before below rest columns are None is cells left top shows = tt
found_box rows size words first low count before below rest columns are (Some grid) is cells left top shows = is_box rows first low count before low_bits blank columns are grid is size words cells left top shows
  where
    past : (r : ℕ) → 48 ≤ r → slice_index rows r ≡ 0
    past r far = get_or_past rows r 0 (omega (arith, size, far))

    low_bits : (r i : ℕ) → i < low → bit_at (slice_index rows r) i ≡ 0
    low_bits r i under = elim (cases_lt r 48) [
      | inl within ↦ below r i within under
      | inr far ↦ ap (λ n. bit_at n i) (past r far) ∙ bit_at-zero i
    ]

    blank : (r : ℕ) → first + count ≤ r → slice_index rows r ≡ 0
    blank r from = elim (cases_lt r 48) [
      | inl within ↦ rest r from within
      | inr far ↦ past r far
    ]
