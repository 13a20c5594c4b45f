-- Things that lie together and show a plane: squares of a store, or words (our own).
use Rattle.std.specs.Prelude.{ℕ, ◌^◌, ℤ, pos, ◌+ℤ◌}
use Rattle.ca_bricks.specs.declared.trio.{Trio.Trio, Rows.Rows}

-- the side of a square of this level
abbrev pub side : ℕ → ℤ
side level = pos (2 ^ level)

-- four of a kind show the plane, as the quarters of a square, each so wide: together they show it from (a, b) onwards
pub record QuartersShow {T : Type 0} (Shows : T → (ℤ → ℤ → ℕ) → ℤ → ℤ → Type 0) (wide : ℤ) (nw ne sw se : T) (p : ℤ → ℤ → ℕ) (a b : ℤ) : Type 0 where
  pub at_nw : Shows nw p a b
  pub at_ne : Shows ne p (a +ℤ wide) b
  pub at_sw : Shows sw p a (b +ℤ wide)
  pub at_se : Shows se p (a +ℤ wide) (b +ℤ wide)

-- two of a kind, side by side and each so wide, show the plane from (a, b) onwards
pub record PairShows {T : Type 0} (Shows : T → (ℤ → ℤ → ℕ) → ℤ → ℤ → Type 0) (wide : ℤ) (west east : T) (p : ℤ → ℤ → ℕ) (a b : ℤ) : Type 0 where
  pub at_west : Shows west p a b
  pub at_east : Shows east p (a +ℤ wide) b

-- three of a kind, side by side and each so wide, show the plane from (a, b) onwards
pub record TrioShows {T : Type 0} (Shows : T → (ℤ → ℤ → ℕ) → ℤ → ℤ → Type 0) (wide : ℤ) (three : Trio T) (p : ℤ → ℤ → ℕ) (a b : ℤ) : Type 0 where
  pub at_west : Shows three.west p a b
  pub at_middle : Shows three.middle p (a +ℤ wide) b
  pub at_east : Shows three.east p (a +ℤ wide +ℤ wide) b

-- nine of a kind, in three rows, show the plane: together they show it from (a, b) onwards
pub record RowsShow {T : Type 0} (Shows : T → (ℤ → ℤ → ℕ) → ℤ → ℤ → Type 0) (wide : ℤ) (rows : Rows T) (p : ℤ → ℤ → ℕ) (a b : ℤ) : Type 0 where
  pub at_north : TrioShows Shows wide rows.north p a b
  pub at_middle : TrioShows Shows wide rows.middle p a (b +ℤ wide)
  pub at_south : TrioShows Shows wide rows.south p a (b +ℤ wide +ℤ wide)
