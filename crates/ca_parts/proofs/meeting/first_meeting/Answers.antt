use Rattle.ca_parts.proofs.ShownCourses.{IsMeeting-from_shown}
use Rattle.ca_parts.proofs.meeting.first_meeting.Goals as goal

pub returns-clause-meeting : goal.returns-clause-meeting
returns-clause-meeting c = λ next p q phases phases_too.
    IsMeeting-from_shown next p q c.args.one.now c.args.other.now c.args.most c.shown_meeting.result phases phases_too c.shown_meeting.ensures.meeting
