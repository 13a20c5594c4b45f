-- The clusters of a settled plane, by what each shows over one period (our own).
use Rattle.std.specs.Prelude.{ℕ, ℤ, List, length, map}
use Rattle.std.specs.List.{All}
use Rattle.ca_plane.specs.Prelude.{Picture, IsLive}
use Rattle.ca_steps.specs.Prelude.{IsBackAnywhere, IsLeast}
use Rattle.ca_parts.specs.Prelude.{Course, plane_at, ArePhases, IsFinest}

-- the plane that a course begins with
abbrev pub first_plane : Course → Picture
first_plane course = plane_at course.planes 0

-- the planes of a course are those of its first one, which is live, up to the first generation after which that one is there again, moved by the
-- vector of the course
pub record GoesRound (next : List ℕ → ℕ) (course : Course) : Type 0 where
  pub live : IsLive (first_plane course)
  pub phases : ArePhases next (first_plane course) course
  pub least : IsLeast (IsBackAnywhere next (first_plane course)) (length course.planes)

-- the first planes of these courses are the parts of the finest division of the cells
pub record AreClusters (next : List ℕ → ℕ) (cells : ℤ → ℤ → ℕ) (courses : List Course) : Type 0 where
  pub round : All (GoesRound next) courses
  pub finest : IsFinest next cells (map first_plane courses)
