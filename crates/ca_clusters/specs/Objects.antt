-- The objects of a cluster: what goes on in it side by side, each as if it were alone (our own).
use Rattle.std.specs.Prelude.{◌≡◌, ℕ, ℤ, ◌⊎◌, List}
use Rattle.std.specs.List.{All, AllPairs, sum_by}
use Rattle.ca_plane.specs.Prelude.{Picture, cell, after}
use Rattle.ca_parts.specs.Prelude.{Course, DontTouch}
use Rattle.ca_clusters.specs.Clusters.{first_plane, GoesRound}

-- no place is live in both
abbrev pub AreDisjoint : (f g : ℤ → ℤ → ℕ) → Type 0
AreDisjoint f g = (x y : ℤ) → (f x y ≡ 0) ⊎ (g x y ≡ 0)

-- each object comes back alone. No two of them touch at first, no place is ever live in two, and at all times they are the cluster together
pub record AreObjects (next : List ℕ → ℕ) (cluster : Picture) (objects : List Course) : Type 0 where
  pub round : All (GoesRound next) objects
  pub islands : AllPairs (λ one other. DontTouch (cell (first_plane one)) (cell (first_plane other))) objects
  pub alone : AllPairs (λ one other. (n : ℕ) → AreDisjoint (after next (first_plane one) n) (after next (first_plane other) n)) objects
  pub whole : (n : ℕ) (x y : ℤ) → after next cluster n x y ≡ sum_by (λ object. after next (first_plane object) n x y) objects
