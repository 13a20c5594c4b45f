use Rattle.std.proofs.Common.{refl, sym, ◌∙◌}
use Rattle.ca_parts.proofs.ShownCourses.{alike-across, alike-down}
use Rattle.ca_parts.proofs.PartedTracks.{GoAlike-across, GoAlike-down, untrue}
use Rattle.ca_parts.proofs.meeting.go_one_way.Goals as goal

pub returns-then-go_alike : goal.returns-then-go_alike
returns-then-go_alike c = (
  λ yes. record {
    across = alike-across c.args.one.now c.args.other.now c.across.result c.across-2.result c.across.ensures.across c.across-2.ensures.across (c.if-go_alike.ensures.alike.0 refl);
    down = alike-down c.args.one.now c.args.other.now c.down.result c.down-then-go_alike.result c.down.ensures.down c.down-then-go_alike.ensures.down (c.go_alike-then-go_alike.ensures.alike.0 yes);
  },
  λ ways. c.go_alike-then-go_alike.ensures.alike.1 (GoAlike-down c.args.one.now c.args.other.now c.down.result c.down-then-go_alike.result c.down.ensures.down c.down-then-go_alike.ensures.down ways.down),
)

pub returns-else-go_alike : goal.returns-else-go_alike
returns-else-go_alike c = (
  λ yes. absurd (untrue (sym c.if-go_alike.false ∙ yes)),
  λ ways. absurd (untrue (c.if-go_alike.ensures.alike.1 (GoAlike-across c.args.one.now c.args.other.now c.across.result c.across-2.result c.across.ensures.across c.across-2.ensures.across ways.across))),
)
