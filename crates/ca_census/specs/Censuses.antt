-- The objects of a settled plane, and what is told of each (our own).
use Rattle.std.specs.Prelude.{◌≡◌, ℕ, List, Option, Some, None, true, false, Bool, option_map, flat_map}
use Rattle.std.specs.List.{AllZip}
use Rattle.ca_plane.specs.Prelude.{cell, HasPopulation, IsLeastBox, longest_period}
use Rattle.ca_parts.specs.Prelude.{Course}
use Rattle.ca_clusters.specs.Prelude.{first_plane, AreObjects}
use Rattle.ca_answers.specs.Prelude.{IsIdentity, IsCodeOf}
use Rattle.ca_answers.specs.declared.identity.Identity.TheVariants.{Claim}
use Rattle.ca_census.specs.declared.{entry.CensusObject.CensusObject, census.Census.Census, settling.Settling.Settling}

-- the code is that of the object, where codes are asked for; else there is none
abbrev pub IsCodeIfAsked : Bool → (List ℕ → Type 0) → Option (List ℕ) → Type 0
IsCodeIfAsked true IsCode (Some code) = IsCode code
IsCodeIfAsked true IsCode None = ⊥
IsCodeIfAsked false IsCode code = code ≡ None

-- what is told of the object with this course, as it is in the first plane: what it is alone, its cells, how many of them are live, and the
-- smallest box round them; and its code, where codes are asked for
pub record IsEntryOf (next : List ℕ → ℕ) (coded : Bool) (course : Course) (entry : CensusObject) : Type 0 where
  pub identity : IsIdentity next (first_plane course) longest_period (Claim entry.kind)
  pub plane : entry.plane ≡ first_plane course
  pub cells : HasPopulation (cell (first_plane course)) entry.cells
  pub bounds : IsLeastBox (first_plane course) entry.bounds
  pub code : IsCodeIfAsked coded (IsCodeOf next (first_plane course) (Claim entry.kind)) (option_map (λ code. code.items) entry.code)

-- the clusters consist of these objects, and the census tells of each, cluster by cluster
pub record IsCensusOf (next : List ℕ → ℕ) (coded : Bool) (settling : Settling) (census : Census) : Type 0 where
  pub objects : List (List Course)
  pub each : AllZip (λ cluster of. AreObjects next (first_plane cluster) of) settling.clusters.items objects
  pub entries : AllZip (IsEntryOf next coded) (flat_map (λ of. of) objects) census.objects.items
  pub generations : census.generations ≡ settling.generations
  pub plane : census.plane ≡ settling.plane
