-- The plane after n generations: all cells change at once, by one rule on a cell and its eight neighbours.
-- It goes down from one cell and one generation to the picture's cells, and never has a plane after a step.
use Rattle.std.specs.Prelude.{◌≡◌, ◌≢◌, ℕ, zero, suc, ℤ, pos, ◌+ℤ◌, ◌-ℤ◌, List, [], ◌∷◌}
use Rattle.ca_plane.specs.Plane.{Picture, cell}

-- the nine cells round a place, row by row: NW, N, NE, W, the centre, E, SW, S, SE (y grows downward)
abbrev pub around : (ℤ → ℤ → ℕ) → ℤ → ℤ → List ℕ
around f x y =
    f (x -ℤ pos 1) (y -ℤ pos 1) ∷ f x (y -ℤ pos 1) ∷ f (x +ℤ pos 1) (y -ℤ pos 1)
    ∷ f (x -ℤ pos 1) y ∷ f x y ∷ f (x +ℤ pos 1) y
    ∷ f (x -ℤ pos 1) (y +ℤ pos 1) ∷ f x (y +ℤ pos 1) ∷ f (x +ℤ pos 1) (y +ℤ pos 1) ∷ []

-- the state at (x, y) after n generations of a plane with these cells, where next gives a cell's next state from the nine
-- cells round it
abbrev pub cells_after : (List ℕ → ℕ) → (ℤ → ℤ → ℕ) → ℕ → ℤ → ℤ → ℕ
cells_after next cells zero x y = cells x y
cells_after next cells (suc n) x y = next (around (cells_after next cells n) x y)

-- the state at (x, y) after n generations of a picture
abbrev pub after : (List ℕ → ℕ) → Picture → ℕ → ℤ → ℤ → ℕ
after next p = cells_after next (cell p)

-- after n generations the plane has this picture's cells, at every x and y
abbrev pub IsAfter : (List ℕ → ℕ) → Picture → ℕ → Picture → Type 0
IsAfter next cells n picture = (x y : ℤ) → after next cells n x y ≡ cell picture x y

-- after n generations some cell is live
abbrev pub IsLiveAfter : (List ℕ → ℕ) → Picture → ℕ → Type 0
IsLiveAfter next cells n = (x : ℤ) × (y : ℤ) × (after next cells n x y ≢ 0)
