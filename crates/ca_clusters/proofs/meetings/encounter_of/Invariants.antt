use Rattle.std.proofs.Common.{◌≤◌}
use Rattle.ca_clusters.specs.inner.Encounters.{IsTrueLook}
use Rattle.ca_clusters.proofs.meetings.encounter_of.Given as goal

-- the look is true of all pairs of parts before this one
abbrev pub invariant-parts : goal.invariant-parts
invariant-parts l = record { look : IsTrueLook l.parts 0 l.other l.look; most : l.look.most ≤ l.horizon }
