-- How a part that comes back moves along one axis (our own).
use Rattle.std.specs.Prelude.{◌≡◌, ◌≢◌, ℕ, ◌/◌, ◌^◌, ◌<◌, ◌≤◌, ℤ, pos, neg_ℤ, ◌+ℤ◌, ◌*ℤ◌, ◌≤ℤ◌, ◌⊎◌, length}
use Rattle.ca_plane.specs.Prelude.{cell, reach, longest_period, greatest_shift}
use Rattle.ca_parts.specs.declared.track.Track.{Track}
use Rattle.ca_parts.specs.Phases.{Course, IsShortStep}
use Rattle.ca_parts.specs.Partings.{IsCovered, length_of}
use Rattle.ca_parts.specs.Phases.{plane_at}

-- a coordinate of a plane
abbrev pub IsCoordinate : ℤ → Type 0
IsCoordinate z = (neg_ℤ reach ≤ℤ z) × (z ≤ℤ reach)

-- its ends are coordinates of a plane, its step is short, and the period is one of a claim
pub record IsTrack (track : Track) : Type 0 where
  pub first : IsCoordinate track.first
  pub last : IsCoordinate track.last
  pub step : IsShortStep track.step
  pub some : 1 ≤ track.period
  pub most : track.period ≤ longest_period

-- the way along the axis after n generations
abbrev pub way : Track → ℕ → ℤ
way track n = pos (n / track.period) *ℤ track.step

-- after n generations the first track ends at least that far before the other one begins
abbrev pub LiesBefore : Track → Track → ℕ → ℤ → Type 0
LiesBefore one other n gap = ((one.last +ℤ way one n) +ℤ gap) ≤ℤ (other.first +ℤ way other n)

-- after n generations no window of three cells sees both
abbrev pub AreClear : Track → Track → ℕ → Type 0
AreClear one other n = LiesBefore one other n (pos 3) ⊎ LiesBefore other one n (pos 3)

-- the live cells of the planes lie between the ends across, and the part moves so across
pub record IsAcross (course : Course) (track : Track) : Type 0 where
  pub step : track.step ≡ course.dx
  pub period : track.period ≡ length course.planes
  pub all : (k : ℕ) → k < length course.planes → (x y : ℤ) → cell (plane_at course.planes k) x y ≢ 0 → (track.first ≤ℤ x) × (x ≤ℤ track.last)

-- and so downward
pub record IsDown (course : Course) (track : Track) : Type 0 where
  pub step : track.step ≡ course.dy
  pub period : track.period ≡ length course.planes
  pub all : (k : ℕ) → k < length course.planes → (x y : ℤ) → cell (plane_at course.planes k) x y ≢ 0 → (track.first ≤ℤ y) × (y ≤ℤ track.last)

-- a number of at most 2^125
abbrev pub IsWide : ℤ → Type 0
IsWide d = (neg_ℤ (pos (2 ^ 125)) ≤ℤ d) × (d ≤ℤ pos (2 ^ 125))

-- a way of at most 2^124
abbrev pub IsLongWay : ℤ → Type 0
IsLongWay d = (neg_ℤ (pos (2 ^ 124)) ≤ℤ d) × (d ≤ℤ pos (2 ^ 124))

-- along the axis the first goes no further than the other, over the same time
abbrev pub GoesNoFaster : Track → Track → Type 0
GoesNoFaster one other = (pos other.period *ℤ one.step) ≤ℤ (pos one.period *ℤ other.step)

-- both go the same way, over the same time
abbrev pub GoAlike : Track → Track → Type 0
GoAlike one other = pos other.period *ℤ one.step ≡ pos one.period *ℤ other.step

-- how long a step is that is short, forward or back
pub record IsLengthOf (step length : ℤ) : Type 0 where
  pub back : neg_ℤ length ≤ℤ step
  pub forward : step ≤ℤ length
  pub some : pos 0 ≤ℤ length
  pub most : length ≤ℤ pos greatest_shift

-- the first goes no faster than the other one, and ends 3 cells and both steps before that one begins, after n generations
abbrev pub KeepsBefore : Track → Track → ℕ → Type 0
KeepsBefore one other n = GoesNoFaster one other × LiesBefore one other n ((length_of one.step +ℤ length_of other.step) +ℤ pos 3)

-- something that the part covers lies on each end of the track across
pub record ReachesAcross (course : Course) (track : Track) : Type 0 where
  pub first : (y : ℤ) × IsCovered course track.first y
  pub last : (y : ℤ) × IsCovered course track.last y

-- and so downward
pub record ReachesDown (course : Course) (track : Track) : Type 0 where
  pub first : (x : ℤ) × IsCovered course x track.first
  pub last : (x : ℤ) × IsCovered course x track.last
