-- A part that comes back, by what it shows over one period (our own).
use Rattle.std.specs.Prelude.{ℕ, ◌/◌, ◌%◌, ◌<◌, ◌≤◌, ℤ, pos, neg_ℤ, ◌≤ℤ◌, ◌*ℤ◌, List, [], length, slice_index_or}
use Rattle.ca_plane.specs.Prelude.{Picture, shifted, IsAfter, longest_period, greatest_shift}

-- the planes of one period, generation by generation, and the vector by which the part is moved after it
pub record Course : Type 0 where
  pub planes : List Picture
  pub dx : ℤ
  pub dy : ℤ

-- each plane is what p is after as many generations as stand before it. One generation after the last plane, p is there again,
-- moved by the vector
pub record ArePhases (next : List ℕ → ℕ) (p : Picture) (course : Course) : Type 0 where
  pub some : 1 ≤ length course.planes
  pub each : (k : ℕ) → k < length course.planes → IsAfter next p k (slice_index_or course.planes k [])
  pub back : IsAfter next p (length course.planes) (shifted p course.dx course.dy)

-- the way is no longer than that of a claim may be
abbrev pub IsShortStep : ℤ → Type 0
IsShortStep d = (neg_ℤ (pos greatest_shift) ≤ℤ d) × (d ≤ℤ pos greatest_shift)

-- there are planes, no more than the longest period of a claim has generations, and the vector is no longer than that of a claim
pub record IsCourse (course : Course) : Type 0 where
  pub some : 1 ≤ length course.planes
  pub most : length course.planes ≤ longest_period
  pub across : IsShortStep course.dx
  pub down : IsShortStep course.dy

-- the plane at k, and nothing where there is none
abbrev pub plane_at : List Picture → ℕ → Picture
plane_at planes k = slice_index_or planes k []

-- what the course shows after n generations: one of its planes, moved by the vector after each whole period
abbrev pub shown : Course → ℕ → Picture
shown course n =
    shifted (plane_at course.planes (n % length course.planes)) (pos (n / length course.planes) *ℤ course.dx) (pos (n / length course.planes) *ℤ course.dy)
