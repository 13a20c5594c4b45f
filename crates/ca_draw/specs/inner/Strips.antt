-- The columns or rows that the cells of a box lie in.
use Rattle.std.specs.Prelude.{◌≡◌, ℕ, ◌^◌, ◌≤◌, ℤ, pos, neg_ℤ, ◌+ℤ◌, ◌≤ℤ◌}
use Rattle.ca_draw.specs.Windows.{strip_of}

-- `count` columns or rows may be those of a window
pub record AreStrips (first : ℤ) (count : ℕ) : Type 0 where
  pub some : 1 ≤ count
  pub most : count ≤ 8192
  pub begins : neg_ℤ (pos (2 ^ 124)) ≤ℤ first
  pub ends : (first +ℤ pos count) ≤ℤ pos (2 ^ 124)

-- they go from that of a number to that of another
pub record AreStripsBetween (scale : ℕ) (from to first : ℤ) (count : ℕ) : Type 0 where
  pub are_strips : AreStrips first count
  pub begins : strip_of scale from ≡ first
  pub ends : (strip_of scale to) +ℤ pos 1 ≡ first +ℤ pos count
