-- Regions of a plane (our own).
use Rattle.std.specs.Prelude.{◌≡◌, ◌≢◌, ℕ, ℤ, List, map}
use Rattle.std.specs.List.{All, AllPairs}
use Rattle.ca_plane.specs.Prelude.{Picture, cell}
use Rattle.ca_steps.specs.Prelude.{HasStates}
use Rattle.ca_parts.specs.Prelude.{Course, together}
use Rattle.ca_clusters.specs.Clusters.{AreClusters}
use Rattle.ca_clusters.specs.Objects.{AreDisjoint}
use Rattle.ca_clusters.specs.inner.Earlier.{AreAlwaysApart}
use Rattle.ca_clusters.specs.declared.region.Region.{Region}

-- each live place of the first picture is live in the other, in whatever state
abbrev pub IsCoveredBy : Picture → Picture → Type 0
IsCoveredBy p q = (x y : ℤ) → cell p x y ≢ 0 → cell q x y ≢ 0

-- these common cells are those of the plane at the live places, and nothing elsewhere
pub record IsCommon (plane : Picture) (places common : ℤ → ℤ → ℕ) : Type 0 where
  pub none : (x y : ℤ) → places x y ≡ 0 → common x y ≡ 0
  pub some : (x y : ℤ) → places x y ≢ 0 → common x y ≡ cell plane x y

-- these pictures together are the plane's cells at the live places of those, each live cell in one of them, and
-- they have its states
pub record AreRegionsAt (plane : Picture) (places regions : List Picture) : Type 0 where
  pub common : IsCommon plane (together places) (together regions)
  pub disjoint : AllPairs (λ p q. AreDisjoint (cell p) (cell q)) regions
  pub states : (count : ℕ) → HasStates count plane → All (HasStates count) regions

-- these pictures are the plane's cells together, each live cell in one of them, and they have its states
pub record AreRegionsOf (plane : Picture) (regions : List Picture) : Type 0 where
  pub whole : (x y : ℤ) → cell plane x y ≡ together regions x y
  pub disjoint : AllPairs (λ p q. AreDisjoint (cell p) (cell q)) regions
  pub states : (count : ℕ) → HasStates count plane → All (HasStates count) regions

-- the clusters are those of the cells
abbrev pub IsRegion : (List ℕ → ℕ) → Region → Type 0
IsRegion next region = AreClusters next (cell region.cells) region.clusters.items

-- the plane of a region's cells
abbrev pub cells_of : Region → Picture
cells_of region = region.cells

-- the courses of a region's clusters
abbrev pub clusters_in : Region → List Course
clusters_in region = region.clusters.items

-- what the one course shows is always apart from what each of the others shows
abbrev pub IsApartFromAll : List Course → Course → Type 0
IsApartFromAll others one = All (AreAlwaysApart one) others

-- what a course of the one list shows is always apart from what a course of the other shows
abbrev pub AreAllApart : (courses others : List Course) → Type 0
AreAllApart courses others = All (IsApartFromAll others) courses

-- no cluster of the one region ever meets a cluster of the other
abbrev pub KeepClear : (one other : Region) → Type 0
KeepClear one other = AreAllApart (clusters_in one) (clusters_in other)

-- the regions, each with its clusters, are the cells together, each live cell in one of them. No state is as large as the count
pub record AreSettledRegions (next : List ℕ → ℕ) (count : ℕ) (cells : ℤ → ℤ → ℕ) (regions : List Region) : Type 0 where
  pub clusters : All (IsRegion next) regions
  pub states : All (HasStates count) (map cells_of regions)
  pub disjoint : AllPairs (λ p q. AreDisjoint (cell p) (cell q)) (map cells_of regions)
  pub whole : (x y : ℤ) → cells x y ≡ together (map cells_of regions) x y
