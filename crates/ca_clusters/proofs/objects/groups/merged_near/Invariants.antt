use Rattle.std.proofs.Common.{List, ◌∷◌, ◌++◌, ℕ, map}
use Rattle.std.specs.Prelude.{ℤ}
use Rattle.std.specs.List.{All}
use Rattle.ca_plane.specs.Prelude.{Picture, IsPicture, IsInPlane}
use Rattle.ca_clusters.specs.inner.Groups.{AreGroups, start_of}
use Rattle.ca_clusters.proofs.objects.groups.merged_near.Given as goal

-- the groups so far are those that were seen, as one, and the others
abbrev pub invariant-runs : goal.invariant-runs
invariant-runs l = record {
  states : IsPicture l.seen.items;
  places : All (λ e. IsInPlane e.0) l.seen.items;
  merged : (cells : ℤ → ℤ → ℕ) (rest : List Picture) → AreGroups cells (map start_of l.yielded ++ rest)
      → AreGroups cells (l.seen.items ∷ (l.groups.items ++ rest));
}
