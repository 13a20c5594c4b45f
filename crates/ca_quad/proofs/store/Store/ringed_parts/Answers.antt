use Rattle.std.proofs.Common.{suc, subst, arith}
use Rattle.ca_quad.specs.Prelude.{IsSoundStore}
use Rattle.ca_quad.proofs.Growth.{grows_same, grows_on}
use Rattle.ca_quad.proofs.ShownSquares.{last_four, ring_four, ring_shows}
use Rattle.ca_quad.proofs.store.Store.ringed_parts.Goals as goal

pub join-requires-4 : goal.join-requires-4
join-requires-4 c = (
  c.args.level,
  last_four c.args.self.now c.empty.new.self c.join.new.self c.join-2.new.self c.join-3.new.self c.join-3.new.self (subst IsSoundStore c.self.view_is c.self.invariant)
      c.empty.ensures.grows c.join.ensures.grows c.join-2.ensures.grows c.join-3.ensures.grows (grows_same c.join-3.new.self c.join-3.ensures.grows.sound)
      c.args.level c.args.nw c.args.ne c.args.sw c.args.se c.in_ok-e.e c.in_ok-a.a c.in_ok-b.b c.in_ok-c.c c.in_ok-c.c
      c.requires.four c.in_ok-e.ensures.shows c.in_ok-a.ensures.shows c.in_ok-b.ensures.shows c.in_ok-c.ensures.shows (omega arith),
)

pub join-requires-5 : goal.join-requires-5
join-requires-5 c = (
  suc c.args.level,
  ring_four c.args.self.now c.empty.new.self c.join.new.self c.join-2.new.self c.join-3.new.self c.join-4.new.self (subst IsSoundStore c.self.view_is c.self.invariant)
      c.empty.ensures.grows c.join.ensures.grows c.join-2.ensures.grows c.join-3.ensures.grows c.join-4.ensures.grows
      c.args.level c.args.nw c.args.ne c.args.sw c.args.se c.in_ok-e.e c.in_ok-a.a c.in_ok-b.b c.in_ok-c.c c.in_ok-d.d
      c.requires.four c.in_ok-e.ensures.shows c.in_ok-a.ensures.shows c.in_ok-b.ensures.shows c.in_ok-c.ensures.shows c.in_ok-d.ensures.shows (omega arith),
)

pub returns-clause-shows : goal.returns-clause-shows
returns-clause-shows c =
    let four =
    ring_four c.args.self.now c.empty.new.self c.join.new.self c.join-2.new.self c.join-3.new.self c.join-4.new.self (subst IsSoundStore c.self.view_is c.self.invariant)
    c.empty.ensures.grows c.join.ensures.grows c.join-2.ensures.grows c.join-3.ensures.grows c.join-4.ensures.grows
    c.args.level c.args.nw c.args.ne c.args.sw c.args.se c.in_ok-e.e c.in_ok-a.a c.in_ok-b.b c.in_ok-c.c c.in_ok-d.d
    c.requires.four c.in_ok-e.ensures.shows c.in_ok-a.ensures.shows c.in_ok-b.ensures.shows c.in_ok-c.ensures.shows c.in_ok-d.ensures.shows (omega arith) in
    ring_shows c.args.self.now c.empty.new.self c.join.new.self c.join-2.new.self c.join-3.new.self c.join-4.new.self (subst IsSoundStore c.self.view_is c.self.invariant)
    c.empty.ensures.grows c.join.ensures.grows c.join-2.ensures.grows c.join-3.ensures.grows c.join-4.ensures.grows
    c.args.level c.args.nw c.args.ne c.args.sw c.args.se c.in_ok-e.e c.in_ok-a.a c.in_ok-b.b c.in_ok-c.c c.in_ok-d.d
    c.requires.four c.in_ok-e.ensures.shows c.in_ok-a.ensures.shows c.in_ok-b.ensures.shows c.in_ok-c.ensures.shows c.in_ok-d.ensures.shows
    c.join-5.new.self c.join-5.result (c.join-5.ensures.shows (suc c.args.level) four.is_nw)

pub returns-clause-grows : goal.returns-clause-grows
returns-clause-grows c =
    grows_on c.args.self.now c.empty.new.self c.join-5.new.self c.empty.ensures.grows
    (grows_on c.empty.new.self c.join.new.self c.join-5.new.self c.join.ensures.grows
    (grows_on c.join.new.self c.join-2.new.self c.join-5.new.self c.join-2.ensures.grows
    (grows_on c.join-2.new.self c.join-3.new.self c.join-5.new.self c.join-3.ensures.grows
    (grows_on c.join-3.new.self c.join-4.new.self c.join-5.new.self c.join-4.ensures.grows c.join-5.ensures.grows))))
