-- The names of this crate's definitions that other crates and proofs cite, passed on from one place. It declares nothing.
pub use Rattle.ca_parts.specs.Parts.{AreApart, AreFurther, AreApartBefore, NeverMeet, together, FallsInto, ComesBack, IsEarlier, IsEnd, LiesIn}
pub use Rattle.ca_parts.specs.Divisions.{IsDivision, IsSettled, IsFiner, IsFinerThanAll, IsFinest, IsFirstSettled}
pub use Rattle.ca_parts.specs.Growth.{ComesBackWithin, IsSettledWithin, HasMoreCells, Outgrows}
pub use Rattle.ca_parts.specs.Components.{HasLive, DontTouch, IsUndivided, IsLinked, BeginsBefore, ArePartsOf}
pub use Rattle.ca_parts.specs.Phases.{Course, ArePhases, IsCourse, plane_at, shown}
pub use Rattle.ca_parts.specs.Meetings.{IsMeeting, IsFirstMeeting, IfNotYet, AreApartAfter, IsShownMeeting}
pub use Rattle.ca_parts.specs.Partings.{IsCovered, length_of, way_after, StaysBefore, ArePartedAcross, ArePartedDown, AreParted, EndPeriods, GoOneWay, EndsRound}
