-- Parts of a plane that are run alone (our own).
use Rattle.std.specs.Prelude.{◌≡◌, ℕ, ◌<◌, ℤ, List, length, map, IsTrue, IsFalse}
use Rattle.std.specs.List.{All, AllPairs}
use Rattle.ca_plane.specs.Prelude.{Picture, cell, IsLive, IsAfter}
use Rattle.ca_steps.specs.Prelude.{IsBackAnywhere, HasStates, IsStepped, LeavesReach}
use Rattle.ca_parts.specs.Prelude.{plane_at, together, LiesIn, IsFinerThanAll}
use Rattle.ca_clusters.specs.Clusters.{first_plane, GoesRound}
use Rattle.ca_clusters.specs.Objects.{AreDisjoint}
use Rattle.ca_clusters.specs.declared.part.Part.{Part}

-- the planes are those of the first one, which is live, generation by generation. It isn't back, moved or not, before the last of
-- them or with it, and no state is as large as the count
pub record IsBeginning (next : List ℕ → ℕ) (count : ℕ) (planes : List Picture) : Type 0 where
  pub some : 0 < length planes
  pub live : IsLive (plane_at planes 0)
  pub each : (k : ℕ) → k < length planes → IsAfter next (plane_at planes 0) k (plane_at planes k)
  pub away : (k : ℕ) → k < length planes → IsBackAnywhere next (plane_at planes 0) k → ⊥
  pub states : All (HasStates count) planes

-- the plane is what the first one of these is one generation after the last of them
abbrev pub IsNextOf : (List ℕ → ℕ) → ℕ → List Picture → Picture → Type 0
IsNextOf next count planes = IsStepped next count (plane_at planes 0) (length planes)

-- a part shows the beginning of its first plane; all of one period, where it is known to come back
pub record IsRun (next : List ℕ → ℕ) (count : ℕ) (part : Part) : Type 0 where
  pub beginning : IsBeginning next count part.shows.planes
  pub round : IsTrue part.is_back → GoesRound next part.shows

-- the same, and its planes after each number of generations up to the horizon are known
pub record IsRunTo (next : List ℕ → ℕ) (count horizon : ℕ) (part : Part) : Type 0 where
  pub run : IsRun next count part
  pub far : IsFalse part.is_back → horizon < length part.shows.planes

-- the first plane of a part
abbrev pub origin : Part → Picture
origin part = first_plane part.shows

-- the parts are the cells together. None of them is empty, no two are live in one place, and each lies in a part of every division
pub record AreRuns (next : List ℕ → ℕ) (count : ℕ) (cells : ℤ → ℤ → ℕ) (parts : List Part) : Type 0 where
  pub runs : All (IsRun next count) parts
  pub disjoint : AllPairs (λ p q. AreDisjoint (cell p) (cell q)) (map origin parts)
  pub whole : (x y : ℤ) → cells x y ≡ together (map origin parts) x y
  pub finer : IsFinerThanAll next cells (map origin parts)

-- some of these cells, going on alone, come too near the edge of the plane for a step
abbrev pub LeavesAlone : (List ℕ → ℕ) → Picture → Type 0
LeavesAlone next cells = (part : Picture) × LiesIn part cells × (n : ℕ) × LeavesReach next part n
