-- Clusters that lay outside the square of a plane some generations earlier (our own).
use Rattle.std.specs.Prelude.{◌≡◌, ℕ, ◌+◌, ◌*◌, ◌<◌, pos, neg_ℤ, ◌*ℤ◌, length}
use Rattle.ca_plane.specs.Prelude.{LeavesPlane}
use Rattle.ca_parts.specs.Prelude.{Course, plane_at}

-- n generations earlier, or less than a period after that, some live cell of what the course shows lay outside the square of a plane
abbrev pub WasOutside : ℕ → Course → Type 0
WasOutside n course =
    (since : ℕ) × (k : ℕ) × (turns : ℕ) × (since < length course.planes) × (k < length course.planes)
    × (since + turns * length course.planes ≡ n + k)
    × LeavesPlane (plane_at course.planes k) (neg_ℤ (pos turns *ℤ course.dx)) (neg_ℤ (pos turns *ℤ course.dy))
