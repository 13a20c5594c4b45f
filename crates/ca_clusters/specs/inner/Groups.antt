-- Groups of a cluster's islands, each of which is run as if it were alone (our own).
use Rattle.std.specs.Prelude.{◌≡◌, ℕ, ◌+◌, ◌-◌, ◌<◌, ℤ, List, length, map, ⊤}
use Rattle.std.specs.List.{All, AllPairs, sum_by}
use Rattle.ca_plane.specs.Prelude.{Picture, cell, after, IsAfter, shifted}
use Rattle.ca_steps.specs.Prelude.{HasStates}
use Rattle.ca_parts.specs.Prelude.{Course, plane_at, together, DontTouch}
use Rattle.ca_clusters.specs.Clusters.{first_plane, GoesRound}
use Rattle.ca_clusters.specs.Objects.{AreDisjoint}
use Rattle.ca_clusters.specs.declared.objects.groups.{Run.Run, GroupRun.GroupRun}
use Rattle.ca_clusters.specs.declared.objects.groups.GroupRun.TheVariants.{Same, Differs, Lost}

-- the cells are those of these groups together, of which no two touch
pub record AreGroups (cells : ℤ → ℤ → ℕ) (groups : List Picture) : Type 0 where
  pub islands : AllPairs (λ p q. DontTouch (cell p) (cell q)) groups
  pub whole : (x y : ℤ) → cells x y ≡ together groups x y

-- at each number of generations below n the groups, each going on alone, are together what the planes show, and no place is live in two
pub record GoAlong (next : List ℕ → ℕ) (planes : List Picture) (n : ℕ) (groups : List Picture) : Type 0 where
  pub alone : AllPairs (λ p q. (m : ℕ) → m < n → AreDisjoint (after next p m) (after next q m)) groups
  pub whole : (m : ℕ) → m < n → (x y : ℤ) → cell (plane_at planes m) x y ≡ sum_by (λ p. after next p m x y) groups

-- the planes are those of the first one, generation by generation
pub record AreGenerations (next : List ℕ → ℕ) (planes : List Picture) : Type 0 where
  pub some : 0 < length planes
  pub each : (k : ℕ) → k < length planes → IsAfter next (plane_at planes 0) k (plane_at planes k)

-- the plane that a group begins with
abbrev pub start_of : Run → Picture
start_of run = plane_at run.planes.items 0

-- the latest plane of a group
abbrev pub latest_of : Run → Picture
latest_of run = plane_at run.planes.items (length run.planes.items - 1)

-- a step can be taken from the latest plane, which has no state as large as the count
pub record IsReady (count : ℕ) (run : Run) : Type 0 where
  pub some : 0 < length run.planes.items
  pub states : HasStates count (latest_of run)

-- the run shows n planes of its group, generation by generation, and a step can be taken from the latest
pub record ShowsPlanes (next : List ℕ → ℕ) (count n : ℕ) (run : Run) : Type 0 where
  pub ready : IsReady count run
  pub long : length run.planes.items ≡ n
  pub generations : AreGenerations next run.planes.items

-- the later run shows one plane more of its group
pub record IsOneLater (next : List ℕ → ℕ) (count : ℕ) (run later : Run) : Type 0 where
  pub ready : IsReady count later
  pub start : start_of later ≡ start_of run
  pub more : (n : ℕ) → ShowsPlanes next count n run → ShowsPlanes next count (n + 1) later

-- the runs show n planes of each of the groups
pub record AreRunsOf (next : List ℕ → ℕ) (count : ℕ) (groups : List Picture) (n : ℕ) (runs : List Run) : Type 0 where
  pub starts : map start_of runs ≡ groups
  pub shown : All (ShowsPlanes next count n) runs

-- the picture is these together, and no place is live in two of them
pub record IsUnionOf (parts : List Picture) (whole : Picture) : Type 0 where
  pub alone : AllPairs (λ p q. AreDisjoint (cell p) (cell q)) parts
  pub together : (x y : ℤ) → cell whole x y ≡ together parts x y

-- what the groups show: they go along with the planes and were run for as many generations, or their runs differ from the planes
abbrev pub IsGroupRun : (List ℕ → ℕ) → ℕ → List Picture → List Picture → GroupRun → Type 0
IsGroupRun next count planes groups (Same runs) =
    AreRunsOf next count groups (length planes + 1) runs.items × GoAlong next planes (length planes) groups
IsGroupRun next count planes groups (Differs difference) = map start_of difference.runs.items ≡ groups
IsGroupRun next count planes groups Lost = ⊤

-- after the period of the cluster the group is there again, moved as the cluster is
abbrev pub IsBackWith : (List ℕ → ℕ) → Course → Picture → Type 0
IsBackWith next cluster group = IsAfter next group (length cluster.planes) (shifted group cluster.dx cluster.dy)

-- the courses are those of the groups, each of which is back with the cluster
pub record AreCoursesOf (next : List ℕ → ℕ) (cluster : Course) (groups : List Picture) (courses : List Course) : Type 0 where
  pub starts : map first_plane courses ≡ groups
  pub round : All (GoesRound next) courses
  pub back : All (IsBackWith next cluster) groups
