use Rattle.std.proofs.Common.{refl}
use Rattle.ca_parts.proofs.ShownCourses.{apart_from_clear-across, apart_from_clear-down}
use Rattle.ca_parts.proofs.meeting.near_way.Goals as goal

pub returns-in_err-dx-clause-none : goal.returns-in_err-dx-clause-none
returns-in_err-dx-clause-none c = λ _.
    apart_from_clear-across c.args.one.now c.args.other.now c.across.result c.across-2.result c.args.n c.across.ensures.across c.across-2.ensures.across
    c.across.ensures.bounded.some c.across-2.ensures.bounded.some (c.in_err-dx.ensures.none refl)

pub returns-in_err-dy-clause-none : goal.returns-in_err-dy-clause-none
returns-in_err-dy-clause-none c = λ _.
    apart_from_clear-down c.args.one.now c.args.other.now c.down.result c.down-2.result c.args.n c.down.ensures.down c.down-2.ensures.down
    c.down.ensures.bounded.some c.down-2.ensures.bounded.some (c.in_err-dy.ensures.none refl)
