-- The search for the generation after which a plane is settled first (our own).
use Rattle.std.specs.Prelude.{ℕ, ◌+◌, ◌<◌, ◌≤◌, List}
use Rattle.ca_plane.specs.Prelude.{Picture, cell, cells_after, longest_period, most_generations}
use Rattle.ca_parts.specs.Divisions as divisions
use Rattle.ca_census.specs.Settlings.{IsSettled}
use Rattle.ca_census.specs.declared.{reach.Reach.Reach, search.Search.Search, settling.Between.Between}

-- no generation up to the limit is too many, and the budget is less than a period may be
pub record CanSearch (search : Search) : Type 0 where
  pub few : search.reach.start + search.reach.limit ≤ most_generations
  pub budget : search.budget < longest_period

-- these are the plane's clusters after the one number of generations from the start on, and after fewer than the other one it isn't settled
pub record IsBetween (next : List ℕ → ℕ) (cells : Picture) (reach : Reach) (between : Between) : Type 0 where
  pub settled : IsSettled next cells reach between.settled
  pub before : (m : ℕ) → m < between.unsettled_before → divisions.IsSettled next (cells_after next (cells_after next (cell cells) reach.start) m) → ⊥
