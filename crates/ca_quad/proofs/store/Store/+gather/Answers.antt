use Rattle.std.proofs.Common.{◌≤◌, arith}
use Rattle.std.proofs.lemmas.Bool.Decides.{nat_tests}
use Rattle.ca_quad.proofs.FilledSquares.{grows_five, can_join, joined}
use Rattle.ca_quad.proofs.store.Store.+gather.Goals as goal

pub join-requires : goal.join-requires
join-requires g t c =
    let large : 2 ≤ c.args.level = grind (arith, nat_tests, g.met.B.Block.some) in (
      _,
      can_join c.gather.new.self c.gather-2.new.self c.gather-3.new.self c.gather-4.new.self c.gather.ensures.grows.sound c.gather-2.ensures.grows c.gather-3.ensures.grows c.gather-4.ensures.grows
          c.args.level c.half_side-half.result large c.half_side-half.ensures.half c.in_ok-nw.nw c.in_ok-ne.ne c.in_ok-sw.sw c.in_ok-se.se (g.B.Block.cells c.args.block.now) c.args.x c.args.y
          c.in_ok-nw.ensures.shows c.in_ok-ne.ensures.shows c.in_ok-sw.ensures.shows c.in_ok-se.ensures.shows (omega (arith, c.requires.most)),
    )

pub returns-clause-shows : goal.returns-clause-shows
returns-clause-shows g t c =
    let large : 2 ≤ c.args.level = grind (arith, nat_tests, g.met.B.Block.some) in
    joined c.gather.new.self c.gather-2.new.self c.gather-3.new.self c.gather-4.new.self c.gather.ensures.grows.sound c.gather-2.ensures.grows c.gather-3.ensures.grows c.gather-4.ensures.grows
    c.args.level c.half_side-half.result large c.half_side-half.ensures.half c.in_ok-nw.nw c.in_ok-ne.ne c.in_ok-sw.sw c.in_ok-se.se (g.B.Block.cells c.args.block.now) c.args.x c.args.y
    c.in_ok-nw.ensures.shows c.in_ok-ne.ensures.shows c.in_ok-sw.ensures.shows c.in_ok-se.ensures.shows c.join.new.self c.join.result c.join.ensures.shows

pub returns-clause-grows : goal.returns-clause-grows
returns-clause-grows g t c = grows_five c.args.self.now c.gather.new.self c.gather-2.new.self c.gather-3.new.self c.gather.ensures.grows c.gather-2.ensures.grows c.gather-3.ensures.grows c.gather-4.new.self c.join.new.self c.gather-4.ensures.grows c.join.ensures.grows
