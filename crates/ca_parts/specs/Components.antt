-- The parts of a plane's live cells, each of which keeps apart from the others (our own).
use Rattle.std.specs.Prelude.{◌≡◌, ◌≢◌, ℕ, ◌+◌, ℤ, List}
use Rattle.std.specs.List.{All, AllPairs, sum_by}
use Rattle.std.specs.declared.cmp.Ordering.TheVariants.{Less}
use Rattle.ca_plane.specs.Prelude.{Picture, cell, point_cmp}
use Rattle.ca_parts.specs.Parts.{AreApart, AreFurther}

-- some cell is live
abbrev pub HasLive : (ℤ → ℤ → ℕ) → Type 0
HasLive f = (x : ℤ) × (y : ℤ) × (f x y ≢ 0)

-- no live cell of one touches a live cell of the other, at a side or a corner, or is live in both
abbrev pub DontTouch : (f g : ℤ → ℤ → ℕ) → Type 0
DontTouch = AreFurther 1

-- live cells that aren't those of two pictures together which keep apart, each with a live cell
pub record IsUndivided (KeepApart : (ℤ → ℤ → ℕ) → (ℤ → ℤ → ℕ) → Type 0) (f : ℤ → ℤ → ℕ) : Type 0 where
  pub live : HasLive f
  pub whole : (g h : ℤ → ℤ → ℕ) → HasLive g → HasLive h → ((x y : ℤ) → f x y ≡ g x y + h x y) → KeepApart g h → ⊥

-- live cells that aren't those of two live pictures that are apart
abbrev pub IsLinked : (ℤ → ℤ → ℕ) → Type 0
IsLinked = IsUndivided AreApart

-- a live cell of the first picture comes before all live cells of the other, row by row from the top, and in a row by rising x
abbrev pub BeginsBefore : Picture → Picture → Type 0
BeginsBefore p q =
    (x : ℤ) × (y : ℤ) × (cell p x y ≢ 0)
    × ((u v : ℤ) → cell q u v ≢ 0 → point_cmp (record { y = y; x = x }) (record { y = v; x = u }) ≡ Less)

-- the pictures are the parts of these cells: together they show them, each can't be divided further, each two keep apart, and they come in
-- the order of their first cells
pub record ArePartsOf (KeepApart : (ℤ → ℤ → ℕ) → (ℤ → ℤ → ℕ) → Type 0) (cells : ℤ → ℤ → ℕ) (parts : List Picture) : Type 0 where
  pub together : (x y : ℤ) → cells x y ≡ sum_by (λ p. cell p x y) parts
  pub undivided : All (λ p. IsUndivided KeepApart (cell p)) parts
  pub apart : AllPairs (λ p q. KeepApart (cell p) (cell q)) parts
  pub order : AllPairs BeginsBefore parts
