use Rattle.std.proofs.Common.{◌≡◌, ℕ, ◌<◌, ◌≤◌, length, get_or, []}
use Rattle.std.specs.List.{All}
use Rattle.std.specs.Int.{bit_at}
use Rattle.ca_plane.specs.Prelude.{row_cells}
use Rattle.ca_bricks.specs.declared.grid.BrickGrid.{BrickGrid}
use Rattle.ca_bricks.specs.Prelude.{number_at, aged_digit, IsInPlace}
use Rattle.ca_bricks.proofs.AgedNumbers.{borrowed_at}
use Rattle.ca_bricks.proofs.aged_step.count_down.Given as goal

-- the digits so far are those of the later numbers
abbrev pub invariant-digits : goal.invariant-digits
invariant-digits l = record {
  borrowed : (x y : ℕ) → x < 64 → y < 16 → row_cells l.borrowed x y ≡ borrowed_at l.k (number_at l.now l.s x y);
  made : (j : ℕ) (d : BrickGrid) → j < l.k → (x y : ℕ) → x < 64 → y < 16
      → row_cells (get_or (get_or l.old j d).bricks.items l.s []) x y ≡ aged_digit l.states j (number_at l.now l.s x y) (row_cells l.begun x y);
  same : (j : ℕ) (d : BrickGrid) → j < l.k → (x y : ℕ) → x < 64 → y < 16 → bit_at l.changed x ≡ 0
      → row_cells (get_or (get_or l.old j d).bricks.items l.s []) x y ≡ row_cells (get_or (get_or l.fn.old j d).bricks.items l.s []) x y;
  ahead : (j : ℕ) (d : BrickGrid) → l.k ≤ j → get_or l.old j d ≡ get_or l.fn.old j d;
  others : (j : ℕ) (d : BrickGrid) (t : ℕ) → (t ≡ l.s → ⊥) → get_or (get_or l.old j d).bricks.items t [] ≡ get_or (get_or l.fn.old j d).bricks.items t [];
  size : All (λ digit. length digit.bricks.items ≡ l.count) l.old;
  places : (j : ℕ) (d : BrickGrid) → j < length l.now → IsInPlace (get_or l.fn.old j d) (get_or l.old j d);
  length : length l.old ≡ length l.fn.old;
}
