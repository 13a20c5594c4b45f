-- Tracks of parts that stay one before the other.
use Rattle.std.proofs.Common.{◌≡◌, ℕ, true, false, length, refl, sym, subst, arith, to_z, of_z}
use Rattle.std.specs.Prelude.{ℤ, pos, ◌*ℤ◌, ◌≤ℤ◌, ◌↔◌, IsTrue}
use Rattle.std.specs.Int.Signed.{le_z}
use Rattle.std.specs.Int.{w128}
use Rattle.std.proofs.lemmas.Int.{ints}
use Rattle.ca_parts.specs.declared.track.Track.{Track}
use Rattle.ca_parts.specs.declared.phases.Phases.TheInside.{Inside}
use Rattle.ca_parts.specs.Phases.{Course}
use Rattle.ca_parts.specs.Partings.{IsCovered, StaysBefore}
use Rattle.ca_parts.specs.inner.Sides.{TouchesEach}
use Rattle.ca_parts.specs.inner.Sweeps.{course_of, IsSwept}
use Rattle.ca_parts.specs.inner.Tracks.{IsAcross, IsDown, IsLongWay, ReachesAcross, ReachesDown, KeepsBefore, GoAlike}

-- what is false isn't true
pub untrue : false ≡ true → ⊥
untrue same = let none : ⊥ = cc in none

-- what one part covers is before what the other one covers, so the ends of their tracks are
KeepsBefore-covered : (at : ℤ → ℤ → ℤ) (one : Course) (step : ℤ) (other : Course) (others : ℤ) (a b : Track) (n : ℕ)
    → a.step ≡ step → a.period ≡ length one.planes → b.step ≡ others → b.period ≡ length other.planes
    → (x y : ℤ) → IsCovered one x y → at x y ≡ a.last → (u v : ℤ) → IsCovered other u v → at u v ≡ b.first
    → StaysBefore at one step other others n → KeepsBefore a b n
KeepsBefore-covered at one step other others a b n goes period goes_too period_too x y covered last u v covered_too first stays =
    rw (goes, period, goes_too, period_too, ← last, ← first) (stays.slow, stays.gap x y u v covered covered_too)

pub KeepsBefore-across : (one other : Course) (a b : Track) (n : ℕ) → IsAcross one a → IsAcross other b
    → ((x y : ℤ) → IsCovered one x y → ReachesAcross one a) → ((x y : ℤ) → IsCovered other x y → ReachesAcross other b)
    → StaysBefore (λ x y. x) one one.dx other other.dx n → KeepsBefore a b n
KeepsBefore-across one other a b n across across_too ends ends_too stays =
    let last = (ends stays.some.0 stays.some.1 stays.some.2).last in
    let first = (ends_too stays.some_too.0 stays.some_too.1 stays.some_too.2).first in
    KeepsBefore-covered (λ x y. x) one one.dx other other.dx a b n across.step across.period across_too.step across_too.period
    a.last last.0 last.1 refl b.first first.0 first.1 refl stays

pub KeepsBefore-down : (one other : Course) (a b : Track) (n : ℕ) → IsDown one a → IsDown other b
    → ((x y : ℤ) → IsCovered one x y → ReachesDown one a) → ((x y : ℤ) → IsCovered other x y → ReachesDown other b)
    → StaysBefore (λ x y. y) one one.dy other other.dy n → KeepsBefore a b n
KeepsBefore-down one other a b n down down_too ends ends_too stays =
    let last = (ends stays.some.0 stays.some.1 stays.some.2).last in
    let first = (ends_too stays.some_too.0 stays.some_too.1 stays.some_too.2).first in
    KeepsBefore-covered (λ x y. y) one one.dy other other.dy a b n down.step down.period down_too.step down_too.period
    last.0 a.last last.1 refl first.0 b.first first.1 refl stays

-- parts that go one way have tracks that go alike
pub GoAlike-across : (one other : Course) (a b : Track) → IsAcross one a → IsAcross other b → pos (length other.planes) *ℤ one.dx ≡ pos (length one.planes) *ℤ other.dx → GoAlike a b
GoAlike-across one other a b across across_too alike = rw (across.step, across.period, across_too.step, across_too.period) alike

pub GoAlike-down : (one other : Course) (a b : Track) → IsDown one a → IsDown other b → pos (length other.planes) *ℤ one.dy ≡ pos (length one.planes) *ℤ other.dy → GoAlike a b
GoAlike-down one other a b down down_too alike = rw (down.step, down.period, down_too.step, down_too.period) alike

-- ---- numbers of the code

-- ways that are compared by their bits
pub test-order : (r s a b : ℤ) → r ≡ a → s ≡ b → IsLongWay r → IsLongWay s → IsTrue (le_z (to_z w128 (of_z w128 r)) (to_z w128 (of_z w128 s))) ↔ (a ≤ℤ b)
test-order r s a b one two long long_too = (λ h. grind (arith, ints), λ h. grind (arith, ints))

-- ---- the ends of a track

-- a part that shows something does so on each side of its sweep
touched : (inside : Inside) (course : Course) → course ≡ course_of inside → IsSwept inside → (x y : ℤ) → IsCovered course x y
    → TouchesEach course.planes (length course.planes) inside.sweep
touched inside course is swept x y covered =
    subst (λ (c : Course). TouchesEach c.planes (length c.planes) inside.sweep) (sym is) (swept.least x y (subst (λ (c : Course). IsCovered c x y) is covered))

pub ReachesAcross-swept : (inside : Inside) (course : Course) (track : Track) → course ≡ course_of inside → track.first ≡ inside.sweep.x0 → track.last ≡ inside.sweep.x1
    → IsSwept inside → (x y : ℤ) → IsCovered course x y → ReachesAcross course track
ReachesAcross-swept inside course track is first last swept x y covered =
    let touches = touched inside course is swept x y covered in
    record {
      first = (touches.left.0, subst (λ (z : ℤ). IsCovered course z touches.left.0) (sym first) touches.left.1);
      last = (touches.right.0, subst (λ (z : ℤ). IsCovered course z touches.right.0) (sym last) touches.right.1);
    }

pub ReachesDown-swept : (inside : Inside) (course : Course) (track : Track) → course ≡ course_of inside → track.first ≡ inside.sweep.y0 → track.last ≡ inside.sweep.y1
    → IsSwept inside → (x y : ℤ) → IsCovered course x y → ReachesDown course track
ReachesDown-swept inside course track is first last swept x y covered =
    let touches = touched inside course is swept x y covered in
    record {
      first = (touches.top.0, subst (λ (z : ℤ). IsCovered course touches.top.0 z) (sym first) touches.top.1);
      last = (touches.bottom.0, subst (λ (z : ℤ). IsCovered course touches.bottom.0 z) (sym last) touches.bottom.1);
    }
