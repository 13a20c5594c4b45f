-- Bits of the cells of a tile, and numbers of live cells in binary.
use Rattle.std.specs.Prelude.{ℕ, suc, ◌+◌, ◌*◌, List, [], ◌∷◌, Bool, ◌==◌, if◌then◌else◌}
use Rattle.std.specs.Int.{bit_at}
use Rattle.ca_plane.specs.declared.counting.Neighbourhood.{Neighbourhood}
use Rattle.ca_plane.specs.declared.counting.Neighbourhood.TheVariants.{Moore, VonNeumann, Hexagonal}
use Rattle.ca_plane.specs.Prelude.{row_cells}
use Rattle.ca_bricks.specs.declared.{count.Count.Count, kernel.bits.Bits.Bits}

-- whether a cell lives next: where it is dead, whether it is born, and else whether it stays
abbrev pub lives_next : Bool → Bool → ℕ → ℕ
lives_next born stays centre = if (if centre == 0 then born else stays) then 1 else 0

-- the next state of a cell with `count` live cells among its neighbours, under the rule of two masks
abbrev pub next_by_count : ℕ → ℕ → ℕ → ℕ → ℕ
next_by_count birth survive centre count = bit_at (if centre == 0 then birth else survive) count

-- the number at a place
abbrev pub number : Count Bits → ℕ → ℕ → ℕ
number c x y = row_cells c.ones.rows x y + 2 * row_cells c.twos.rows x y + 4 * row_cells c.fours.rows x y + 8 * row_cells c.eights.rows x y

-- the sum of the counted neighbours of the cell at x + 1 in the row above it, in its own row, and in the row below it
abbrev pub sum_above : Neighbourhood → (ℕ → ℕ) → ℕ → ℕ
sum_above Moore row x = row x + row (suc x) + row (suc (suc x))
sum_above VonNeumann row x = row (suc x)
sum_above Hexagonal row x = row x + row (suc x)

abbrev pub sum_beside : (ℕ → ℕ) → ℕ → ℕ
sum_beside row x = row x + row (suc (suc x))

abbrev pub sum_below : Neighbourhood → (ℕ → ℕ) → ℕ → ℕ
sum_below Moore row x = row x + row (suc x) + row (suc (suc x))
sum_below VonNeumann row x = row (suc x)
sum_below Hexagonal row x = row (suc x) + row (suc (suc x))

-- the sum of the counted neighbours of the cell at (x + 1, y + 1)
abbrev pub sum_round : Neighbourhood → (ℕ → ℕ → ℕ) → ℕ → ℕ → ℕ
sum_round counted at x y =
    sum_above counted (λ u. at u y) x + sum_beside (λ u. at u (suc y)) x + sum_below counted (λ u. at u (suc (suc y))) x

-- the nine cells round (x + 1, y + 1)
abbrev pub nine_at : (ℕ → ℕ → ℕ) → ℕ → ℕ → List ℕ
nine_at at x y =
    at x y ∷ at (suc x) y ∷ at (suc (suc x)) y
    ∷ at x (suc y) ∷ at (suc x) (suc y) ∷ at (suc (suc x)) (suc y)
    ∷ at x (suc (suc y)) ∷ at (suc x) (suc (suc y)) ∷ at (suc (suc x)) (suc (suc y)) ∷ []
