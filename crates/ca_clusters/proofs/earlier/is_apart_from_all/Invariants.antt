use Rattle.std.specs.List.{AllWithin}
use Rattle.ca_clusters.specs.inner.Earlier.{AreApartUpTo}
use Rattle.ca_clusters.proofs.earlier.is_apart_from_all.Given as goal

-- the courses so far are apart from the other one
abbrev pub invariant-courses : goal.invariant-courses
invariant-courses l = AllWithin (λ one. AreApartUpTo l.n one l.other) l.courses 0 l.course-index
