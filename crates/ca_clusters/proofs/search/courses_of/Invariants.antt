use Rattle.std.proofs.Common.{◌≡◌, map}
use Rattle.ca_clusters.specs.declared.part.Part.{Part}
use Rattle.ca_clusters.proofs.search.courses_of.Given as goal

-- the courses of the parts so far
abbrev pub invariant-parts : goal.invariant-parts
invariant-parts l = l.courses.items ≡ map (λ (part : Part). part.shows) l.yielded
