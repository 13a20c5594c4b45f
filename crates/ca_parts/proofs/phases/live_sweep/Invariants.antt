use Rattle.std.specs.Prelude.{IfSome}
use Rattle.ca_parts.specs.inner.Courses.{IsNearBox, SweepsBefore}
use Rattle.ca_parts.specs.inner.Sides.{TouchesEach}
use Rattle.ca_parts.proofs.phases.live_sweep.Given as goal

-- the box so far is near, the smallest that holds what the planes so far show
abbrev pub invariant-planes : goal.invariant-planes
invariant-planes l = record { near : IfSome l.sweep IsNearBox; all : SweepsBefore l.planes l.plane-index l.sweep; least : IfSome l.sweep (TouchesEach l.planes l.plane-index) }
