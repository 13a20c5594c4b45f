-- Boxes that are reflected.
use Rattle.std.specs.Prelude.{◌≡◌, ℕ, ◌-◌, ◌<◌, length}
use Rattle.ca_apgcode.specs.Grids.{GridCells, IsGrid, cell}

-- east and west are exchanged
pub record IsMirrored (old new : GridCells) : Type 0 where
  pub is_grid : IsGrid new
  pub width : length new.columns ≡ length old.columns
  pub height : new.height ≡ old.height
  pub cells : (x y : ℕ) → x < length old.columns → cell new x y ≡ cell old (length old.columns - 1 - x) y

-- north and south are exchanged
pub record IsFlipped (old new : GridCells) : Type 0 where
  pub is_grid : IsGrid new
  pub width : length new.columns ≡ length old.columns
  pub height : new.height ≡ old.height
  pub cells : (x y : ℕ) → y < old.height → cell new x y ≡ cell old x (old.height - 1 - y)

-- columns are rows now
pub record IsTransposed (old new : GridCells) : Type 0 where
  pub is_grid : IsGrid new
  pub width : length new.columns ≡ old.height
  pub height : new.height ≡ length old.columns
  pub cells : (x y : ℕ) → cell new x y ≡ cell old y x
