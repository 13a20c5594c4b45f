use Rattle.std.proofs.Common.{◌≤◌}
use Rattle.ca_clusters.specs.inner.Encounters.{IsTrueLook}
use Rattle.ca_clusters.proofs.meetings.with_part.Given as goal

-- the look is true of the pairs before this one
abbrev pub invariant-parts : goal.invariant-parts
invariant-parts l = record { look : IsTrueLook l.parts l.one l.other l.look; most : l.look.most ≤ l.initial.look.most }
