-- What shows that two parts that come back don't meet any more, by their planes over one period and the ways that they go (our own).
use Rattle.std.specs.Prelude.{◌≡◌, ◌≢◌, ℕ, ◌*◌, ◌/◌, ◌<◌, ℤ, pos, ◌+ℤ◌, ◌*ℤ◌, ◌≤ℤ◌, ◌⊎◌, [], length, slice_index_or, unsigned_abs}
use Rattle.ca_plane.specs.Prelude.{cell}
use Rattle.ca_parts.specs.Phases.{Course}

-- some plane of the period is live there
abbrev pub IsCovered : Course → ℤ → ℤ → Type 0
IsCovered course x y = (k : ℕ) × (k < length course.planes) × (cell (slice_index_or course.planes k []) x y ≢ 0)

-- how long a step is, forward or back
abbrev pub length_of : ℤ → ℤ
length_of step = pos (unsigned_abs step)

-- the way along an axis that is gone after n generations, by a step after each whole period
abbrev pub way_after : Course → ℤ → ℕ → ℤ
way_after course step n = pos (n / length course.planes) *ℤ step

-- on one axis, on which the first goes by `step` and the other by `others`, the first goes no faster than the other, over the same time. After n
-- generations all that it covers lies before all that the other covers, and between them are 3 cells and both steps. Each covers something
pub record StaysBefore (at : ℤ → ℤ → ℤ) (one : Course) (step : ℤ) (other : Course) (others : ℤ) (n : ℕ) : Type 0 where
  pub some : (x : ℤ) × (y : ℤ) × IsCovered one x y
  pub some_too : (x : ℤ) × (y : ℤ) × IsCovered other x y
  pub slow : (pos (length other.planes) *ℤ step) ≤ℤ (pos (length one.planes) *ℤ others)
  pub gap : (x y u v : ℤ) → IsCovered one x y → IsCovered other u v
      → ((at x y +ℤ way_after one step n) +ℤ ((length_of step +ℤ length_of others) +ℤ pos 3)) ≤ℤ (at u v +ℤ way_after other others n)

-- one of the two stays before the other across
abbrev pub ArePartedAcross : Course → Course → ℕ → Type 0
ArePartedAcross one other n = StaysBefore (λ x y. x) one one.dx other other.dx n ⊎ StaysBefore (λ x y. x) other other.dx one one.dx n

-- or downward
abbrev pub ArePartedDown : Course → Course → ℕ → Type 0
ArePartedDown one other n = StaysBefore (λ x y. y) one one.dy other other.dy n ⊎ StaysBefore (λ x y. y) other other.dy one one.dy n

-- from n generations on one of the two stays before the other, across or downward
abbrev pub AreParted : Course → Course → ℕ → Type 0
AreParted one other n = ArePartedAcross one other n ⊎ ArePartedDown one other n

-- both periods end after n generations
pub record EndPeriods (one other : Course) (n : ℕ) : Type 0 where
  pub turns : ℕ
  pub others : ℕ
  pub first : n ≡ turns * length one.planes
  pub second : n ≡ others * length other.planes

-- both go the same way over the same time
pub record GoOneWay (one other : Course) : Type 0 where
  pub across : pos (length other.planes) *ℤ one.dx ≡ pos (length one.planes) *ℤ other.dx
  pub down : pos (length other.planes) *ℤ one.dy ≡ pos (length one.planes) *ℤ other.dy

-- both periods end after n generations, and both go the same way, so that all is as at first, but for that way
pub record EndsRound (one other : Course) (n : ℕ) : Type 0 where
  pub ends : EndPeriods one other n
  pub alike : GoOneWay one other
