use Rattle.ca_quad.proofs.ShownSquares.{leaves_four, leaves_ring}
use Rattle.ca_quad.proofs.store.Store.ringed_cells.Goals as goal

pub join-requires : goal.join-requires
join-requires c = (
  1,
  leaves_four c.leaf.new.self c.leaf-2.new.self c.leaf-3.new.self c.leaf-4.new.self c.leaf-2.ensures.grows c.leaf-3.ensures.grows c.leaf-4.ensures.grows c.leaf.ensures.grows.sound
      c.args.nw c.args.ne c.args.sw c.args.se c.in_ok-a.a c.in_ok-b.b c.in_ok-c.c c.in_ok-d.d
      c.in_ok-a.ensures.shows c.in_ok-b.ensures.shows c.in_ok-c.ensures.shows c.in_ok-d.ensures.shows,
)

pub returns-clause-shows : goal.returns-clause-shows
returns-clause-shows c =
    let four =
    leaves_four c.leaf.new.self c.leaf-2.new.self c.leaf-3.new.self c.leaf-4.new.self c.leaf-2.ensures.grows c.leaf-3.ensures.grows c.leaf-4.ensures.grows c.leaf.ensures.grows.sound
    c.args.nw c.args.ne c.args.sw c.args.se c.in_ok-a.a c.in_ok-b.b c.in_ok-c.c c.in_ok-d.d
    c.in_ok-a.ensures.shows c.in_ok-b.ensures.shows c.in_ok-c.ensures.shows c.in_ok-d.ensures.shows in
    leaves_ring c.leaf.new.self c.leaf-2.new.self c.leaf-3.new.self c.leaf-4.new.self c.leaf-2.ensures.grows c.leaf-3.ensures.grows c.leaf-4.ensures.grows c.leaf.ensures.grows.sound
    c.args.nw c.args.ne c.args.sw c.args.se c.in_ok-a.a c.in_ok-b.b c.in_ok-c.c c.in_ok-d.d
    c.in_ok-a.ensures.shows c.in_ok-b.ensures.shows c.in_ok-c.ensures.shows c.in_ok-d.ensures.shows
    c.join.new.self c.join.result (c.join.ensures.shows 1 four.is_nw)
