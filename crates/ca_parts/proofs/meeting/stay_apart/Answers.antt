use Rattle.std.proofs.Common.{inl, inr, refl}
use Rattle.ca_parts.proofs.ShownCourses.{apart_from_clear-across, apart_from_clear-down}
use Rattle.ca_parts.proofs.PartedTracks.{KeepsBefore-across, KeepsBefore-down, untrue}
use Rattle.ca_parts.proofs.meeting.stay_apart.Goals as goal

pub returns-then-stay_clear-clause-apart : goal.returns-then-stay_clear-clause-apart
returns-then-stay_clear-clause-apart c = λ yes k late.
    apart_from_clear-across c.args.one.now c.args.other.now c.across.result c.across-2.result k c.across.ensures.across c.across-2.ensures.across
    c.across.ensures.bounded.some c.across-2.ensures.bounded.some (c.if-stay_clear.ensures.clear refl k late)

pub returns-else-stay_clear-clause-apart : goal.returns-else-stay_clear-clause-apart
returns-else-stay_clear-clause-apart c = λ yes k late.
    apart_from_clear-down c.args.one.now c.args.other.now c.down.result c.down-else-stay_clear.result k c.down.ensures.down c.down-else-stay_clear.ensures.down
    c.down.ensures.bounded.some c.down-else-stay_clear.ensures.bounded.some (c.stay_clear-else-stay_clear.ensures.clear yes k late)

pub returns-else-stay_clear-clause-parted : goal.returns-else-stay_clear-clause-parted
returns-else-stay_clear-clause-parted c = λ parted. elim parted [
  | inl (inl one) ↦ absurd (untrue (c.if-stay_clear.ensures.kept.1 (inl (KeepsBefore-across c.args.one.now c.args.other.now c.across.result c.across-2.result c.args.n
      c.across.ensures.across c.across-2.ensures.across c.across.ensures.ends c.across-2.ensures.ends one))))
  | inl (inr other) ↦ absurd (untrue (c.if-stay_clear.ensures.kept.1 (inr (KeepsBefore-across c.args.other.now c.args.one.now c.across-2.result c.across.result c.args.n
      c.across-2.ensures.across c.across.ensures.across c.across-2.ensures.ends c.across.ensures.ends other))))
  | inr (inl one) ↦ c.stay_clear-else-stay_clear.ensures.kept.1 (inl (KeepsBefore-down c.args.one.now c.args.other.now c.down.result c.down-else-stay_clear.result c.args.n
      c.down.ensures.down c.down-else-stay_clear.ensures.down c.down.ensures.ends c.down-else-stay_clear.ensures.ends one))
  | inr (inr other) ↦ c.stay_clear-else-stay_clear.ensures.kept.1 (inr (KeepsBefore-down c.args.other.now c.args.one.now c.down-else-stay_clear.result c.down.result c.args.n
      c.down-else-stay_clear.ensures.down c.down.ensures.down c.down-else-stay_clear.ensures.ends c.down.ensures.ends other))
]
