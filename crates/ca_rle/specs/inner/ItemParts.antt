-- The parts of an item, as the reader splits them off.
use Rattle.std.specs.Prelude.{◌≡◌, ℕ, List}
use Rattle.ca_plane.specs.Prelude.{is_digit, front, rest}
use Rattle.ca_rle.specs.{Items.InLine, Faults.after_white}

-- the digits after the white space at the front, and what stands after them
pub record IsSplit (bytes digits later : List ℕ) : Type 0 where
  pub digits_are : digits ≡ front is_digit (after_white InLine bytes)
  pub later_is : later ≡ rest is_digit (after_white InLine bytes)
