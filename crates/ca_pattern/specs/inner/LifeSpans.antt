-- How long a pattern lives.
use Rattle.std.specs.Prelude.{ℕ, ◌<◌, List, []}
use Rattle.ca_plane.specs.Prelude.{Picture, IsAfter, IsLiveAfter}

-- the plane is empty after n generations, and before that it isn't
pub record IsLifeSpan (next : List ℕ → ℕ) (cells : Picture) (n : ℕ) : Type 0 where
  pub empty : IsAfter next cells n []
  pub live : (k : ℕ) → k < n → IsLiveAfter next cells k
