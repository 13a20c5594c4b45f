-- What a part that comes back is kept as: its planes over one period, the vector, and the smallest box round all that they show (our own).
use Rattle.std.specs.Prelude.{ℤ, length}
use Rattle.ca_parts.specs.declared.phases.Phases.TheInside.{Inside}
use Rattle.ca_parts.specs.Phases.{Course, IsCourse}
use Rattle.ca_parts.specs.inner.Courses.{HoldsBefore, IsNearBox}
use Rattle.ca_parts.specs.inner.Sides.{IsLiveIn, TouchesEach}

abbrev pub course_of : Inside → Course
course_of p = record { planes = p.planes.items; dx = p.dx; dy = p.dy }

pub record IsSwept (p : Inside) : Type 0 where
  pub limits : IsCourse (course_of p)
  pub near : IsNearBox p.sweep
  pub all : HoldsBefore p.planes.items (length p.planes.items) p.sweep
  pub least : (x y : ℤ) → IsLiveIn p.planes.items (length p.planes.items) x y → TouchesEach p.planes.items (length p.planes.items) p.sweep
