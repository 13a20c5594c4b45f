-- When a plane is settled, and its clusters then (our own).
use Rattle.std.specs.Prelude.{ℕ, ◌+◌, ◌≤◌, List}
use Rattle.ca_plane.specs.Prelude.{Picture, cell, cells_after, IsAfter}
use Rattle.ca_parts.specs.Prelude.{IsFirstSettled}
use Rattle.ca_clusters.specs.Prelude.{AreClusters}
use Rattle.ca_census.specs.declared.{reach.Reach.Reach, settling.Settling.Settling}

-- these are the plane and its clusters so many generations after the start, which is within the limit
pub record IsSettled (next : List ℕ → ℕ) (cells : Picture) (reach : Reach) (settling : Settling) : Type 0 where
  pub clusters : AreClusters next (cells_after next (cell cells) (reach.start + settling.generations)) settling.clusters.items
  pub plane : IsAfter next cells (reach.start + settling.generations) settling.plane
  pub within : settling.generations ≤ reach.limit

-- the same, and the plane is settled after no fewer generations from the start on
pub record IsSettling (next : List ℕ → ℕ) (cells : Picture) (reach : Reach) (settling : Settling) : Type 0 where
  pub settled : IsSettled next cells reach settling
  pub first : IsFirstSettled next (cells_after next (cell cells) reach.start) settling.generations
