-- What a course was some generations earlier (our own).
use Rattle.std.specs.Prelude.{◌≡◌, ℕ, ◌/◌, ◌%◌, ◌≤◌, ℤ, pos, ◌-ℤ◌, ◌*ℤ◌, List, replicate, length}
use Rattle.ca_plane.specs.Prelude.{Picture, shifted, LeavesPlane}
use Rattle.ca_parts.specs.Prelude.{Course, IsEarlier, plane_at, AreApartAfter}
use Rattle.ca_clusters.specs.Clusters.{first_plane, GoesRound}

-- where the course is that of its first plane, under some rule, the earlier one is that of what this plane was n generations earlier
abbrev pub IsEarlierCourse : ℕ → Course → Course → Type 0
IsEarlierCourse n course earlier =
    (next : List ℕ → ℕ) → next (replicate 9 0) ≡ 0 → GoesRound next course
    → GoesRound next earlier × IsEarlier next n (first_plane earlier) (first_plane course)

-- the way that is gone in some periods, from a start that lies `turns` periods back
abbrev pub way_from : ℕ → ℕ → ℤ → ℤ
way_from turns periods step = (pos periods -ℤ pos turns) *ℤ step

-- what the course shows k generations after it was `turns` periods earlier
abbrev pub shown_from : Course → ℕ → ℕ → Picture
shown_from course turns k =
    shifted (plane_at course.planes (k % length course.planes)) (way_from turns (k / length course.planes) course.dx)
    (way_from turns (k / length course.planes) course.dy)

-- some live cell of what it shows then lies outside the square of a plane
abbrev pub LeavesFrom : Course → ℕ → ℕ → Type 0
LeavesFrom course turns k =
    LeavesPlane (plane_at course.planes (k % length course.planes)) (way_from turns (k / length course.planes) course.dx)
    (way_from turns (k / length course.planes) course.dy)

-- what two courses show is apart now and after each number of generations up to n
abbrev pub AreApartUpTo : ℕ → Course → Course → Type 0
AreApartUpTo n one other = (k : ℕ) → k ≤ n → AreApartAfter one other k

-- what two courses show is always apart
abbrev pub AreAlwaysApart : Course → Course → Type 0
AreAlwaysApart one other = (k : ℕ) → AreApartAfter one other k
