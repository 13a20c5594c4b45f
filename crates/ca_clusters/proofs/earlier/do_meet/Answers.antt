use Rattle.ca_clusters.proofs.ApartCourses.{AreApartUpTo-from_shown}
use Rattle.ca_clusters.proofs.earlier.do_meet.Goals as goal

pub returns-in-At-clause-meet : goal.returns-in-At-clause-meet
returns-in-At-clause-meet c = λ is always. c.in-At.ensures.shown.0 (always c.in-At.field-0)

pub returns-in_default : goal.returns-in_default
returns-in_default c = record {
  apart = λ is. AreApartUpTo-from_shown c.args.one.now c.args.other.now c.args.n c.first_meeting.result c.in_default.not-At c.first_meeting.ensures.shown;
  meet = λ is. absurd (let no : ⊥ = cc in no);
}
