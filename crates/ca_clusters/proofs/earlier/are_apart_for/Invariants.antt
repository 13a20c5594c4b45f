use Rattle.std.proofs.Common.{take}
use Rattle.std.specs.List.{AllPairs}
use Rattle.ca_clusters.specs.inner.Earlier.{AreApartUpTo}
use Rattle.ca_clusters.proofs.earlier.are_apart_for.Given as goal

-- each two of the courses so far are apart
abbrev pub invariant-courses : goal.invariant-courses
invariant-courses l = AllPairs (AreApartUpTo l.n) (take l.other l.courses)
