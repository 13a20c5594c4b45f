-- Rules that go by the number of live cells among some neighbours of a cell.
use Rattle.std.specs.Prelude.{ℕ, List}
use Rattle.ca_plane.specs.Prelude.{GoesByCounting}
use Rattle.ca_plane.specs.declared.counting.Counting.{Counting}

-- the rule has two states, and goes by the counting
pub record GoesBy (next : List ℕ → ℕ) (counting : Counting) : Type 0 where
  pub states : ℕ
  pub by_counting : GoesByCounting states next counting
