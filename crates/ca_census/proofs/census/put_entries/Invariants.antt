use Rattle.std.proofs.Common.{ℕ, List, ◌++◌, take}
use Rattle.std.specs.List.{All, AllZip}
use Rattle.ca_plane.specs.Prelude.{IsSparse}
use Rattle.ca_parts.specs.Prelude.{Course}
use Rattle.ca_clusters.specs.Prelude.{GoesRound}
use Rattle.ca_census.specs.Censuses.{IsEntryOf}
use Rattle.ca_census.proofs.census.put_entries.Given as goal

-- the entries on the objects so far stand after the others, and all have sparse planes
abbrev pub invariant-objects : goal.invariant-objects
invariant-objects l = record {
  entries : (next : List ℕ → ℕ) (before : List Course) → AllZip (IsEntryOf next l.coded) before l.fn.entries.items → All (GoesRound next) l.objects
      → AllZip (IsEntryOf next l.coded) (before ++ take l.object-index l.objects) l.entries.items;
  sparse : All (λ o. IsSparse o.plane) l.fn.entries.items → All (λ o. IsSparse o.plane) l.entries.items;
}
