-- Codes that are found by computation.
use Rattle.std.proofs.Common.{◌≡◌, ℕ, zero, suc, ◌*◌, ◌^◌, ◌<◌, ◌≤◌, ◌==◌, nat_le, nat_lt, ◌&&◌, Bool, true, List, [], ◌∷◌, length, get_or, refl, sym, ◌∙◌, inl, inr, arith}
use Rattle.std.specs.List.{flat_map, AllByRecursion, list_all}
use Rattle.std.proofs.lemmas.Bool.{cases_lt, eqb-true, leb-true, ltb-true, and_parts, agree_below, agree_below_at}
use Rattle.std.proofs.lemmas.List.{get_or_past}
use Rattle.std.proofs.lemmas.Nat.{pow_pos}
use Rattle.ca_apgcode.specs.Prelude.{GridCells, IsLeastGrid, cell, Step, IsStep, IsStrip, IsCode, five_cells, step_columns}
use Rattle.ca_apgcode.proofs.Columns.{five_dead}
use Rattle.ca_apgcode.proofs.ReadTexts.{strips_text}

-- a step by its parts
abbrev pub step : ℕ → ℕ → Step
step gap column = record { gap = gap; column = column }

-- columns below a power of 2
low_rows : (height : ℕ) (columns : List ℕ) → list_all (λ c. nat_lt c (2 ^ height)) columns ≡ true → (x : ℕ) → get_or columns x 0 < 2 ^ height
low_rows height [] test x = pow_pos height
low_rows height (c ∷ columns) test zero = ltb-true c (2 ^ height) (and_parts (nat_lt c (2 ^ height)) (list_all (λ c. nat_lt c (2 ^ height)) columns) test).0
low_rows height (c ∷ columns) test (suc x) = low_rows height columns (and_parts (nat_lt c (2 ^ height)) (list_all (λ c. nat_lt c (2 ^ height)) columns) test).1 x

-- whether a step is one
abbrev pub is_step : Step → Bool
is_step s = nat_le s.gap 39 && (nat_le 1 s.column && nat_le s.column 31)

-- whether columns and steps agree, of which neither have more than n columns
abbrev pub agree : GridCells → ℕ → List Step → ℕ → Bool
agree grid y steps n = agree_below (λ x. get_or (flat_map step_columns steps) x 0 == five_cells (cell grid) x y) (λ _. true) n

are_steps : (steps : List Step) → list_all is_step steps ≡ true → AllByRecursion IsStep steps
are_steps [] test = tt
are_steps (s ∷ steps) test =
    let parts = and_parts (is_step s) (list_all is_step steps) test in
    let first = and_parts (nat_le s.gap 39) (nat_le 1 s.column && nat_le s.column 31) parts.0 in
    let column = and_parts (nat_le 1 s.column) (nat_le s.column 31) first.1 in
    (record { gap = leb-true s.gap 39 first.0; some = leb-true 1 s.column column.0; most = leb-true s.column 31 column.1 }, are_steps steps parts.1)

strip : (grid : GridCells) (y : ℕ) (steps : List Step) (n : ℕ) → length grid.columns ≤ n → length (flat_map step_columns steps) ≤ n → list_all is_step steps ≡ true → agree grid y steps n ≡ true → IsStrip (cell grid) y steps
strip grid y steps n narrow short valid same = record {
  each = are_steps steps valid;
  columns = λ x. elim (cases_lt x n) [
    | inl within ↦ eqb-true (get_or (flat_map step_columns steps) x 0) (five_cells (cell grid) x y) (agree_below_at (λ x. get_or (flat_map step_columns steps) x 0 == five_cells (cell grid) x y) (λ _. true) n x same within)
    | inr past ↦ get_or_past (flat_map step_columns steps) x 0 (omega (arith, past, short)) ∙ sym (five_dead grid x y (get_or_past grid.columns x 0 (omega (arith, past, narrow))))
  ];
}

-- a box with one strip
pub one_strip : (grid : GridCells) (steps : List Step) → 1 ≤ grid.height → grid.height ≤ 5 → length grid.columns ≤ 40 → list_all (λ c. nat_lt c (2 ^ grid.height)) grid.columns ≡ true → IsLeastGrid grid → length (flat_map step_columns steps) ≤ 40 → list_all is_step steps ≡ true → agree grid 0 steps 40 ≡ true → IsCode grid (strips_text (steps ∷ []))
one_strip grid steps some low narrow rows least short valid same = record {
  is_grid = record { width = narrow; height = omega (arith, low); rows = low_rows grid.height grid.columns rows };
  is_least = least;
  is_representation = record {
    strips = steps ∷ [];
    count = omega (arith, some, low);
    each = only;
    whole = refl;
  };
}
  where
    only : (i : ℕ) → i < 1 → IsStrip (cell grid) (5 * i) (get_or (steps ∷ []) i [])
    only zero below = strip grid 0 steps 40 narrow short valid same
    only (suc i) below = absurd (omega (arith, below))

-- a box with two strips
pub two_strips : (grid : GridCells) (first second : List Step) → 6 ≤ grid.height → grid.height ≤ 10 → length grid.columns ≤ 40 → list_all (λ c. nat_lt c (2 ^ grid.height)) grid.columns ≡ true → IsLeastGrid grid → length (flat_map step_columns first) ≤ 40 → length (flat_map step_columns second) ≤ 40 → list_all is_step first ≡ true → list_all is_step second ≡ true → agree grid 0 first 40 ≡ true → agree grid 5 second 40 ≡ true → IsCode grid (strips_text (first ∷ second ∷ []))
two_strips grid first second some low narrow rows least short_first short_second valid_first valid_second same_first same_second = record {
  is_grid = record { width = narrow; height = omega (arith, low); rows = low_rows grid.height grid.columns rows };
  is_least = least;
  is_representation = record {
    strips = first ∷ second ∷ [];
    count = omega (arith, some, low);
    each = both;
    whole = refl;
  };
}
  where
    both : (i : ℕ) → i < 2 → IsStrip (cell grid) (5 * i) (get_or (first ∷ second ∷ []) i [])
    both zero below = strip grid 0 first 40 narrow short_first valid_first same_first
    both (suc zero) below = strip grid 5 second 40 narrow short_second valid_second same_second
    both (suc (suc i)) below = absurd (omega (arith, below))
