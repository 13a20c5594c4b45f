use Rattle.std.proofs.Common.{◌+◌, arith}
use Rattle.std.specs.Prelude.{pos, ◌+ℤ◌}
use Rattle.std.proofs.lemmas.Int.{ints}
use Rattle.ca_bricks.proofs.AgedSquares.{part_shows}
use Rattle.ca_run.proofs.ShownPlanes.{four_made}
use Rattle.ca_run.proofs.leaper.Leaper.from_quarter.Goals as goal

pub returns-clause-shows : goal.returns-clause-shows
returns-clause-shows g c = λ p a b shows.
    let g1 = c.in_ok-nw.ensures.at_cost.goes_on.grows in
    let place = c.args.place in
    let part = part_shows 4 2 c.args.cells.now place in
    c.join.ensures.shows p a b
    (four_made _ _ _ _ g1.sound c.in_ok-ne.ensures.at_cost.goes_on.grows c.in_ok-sw.ensures.at_cost.goes_on.grows c.in_ok-se.ensures.at_cost.goes_on.grows 1 _ _ _ _ p a b
    (c.in_ok-nw.ensures.shows p a b (part 0 0 place p a b a b shows (omega arith) (omega arith) (omega arith) (omega (arith, ints)) (omega (arith, ints))))
    (c.in_ok-ne.ensures.shows p (a +ℤ pos 2) b (part 2 0 (place + 2) p a b (a +ℤ pos 2) b shows (omega arith) (omega arith) (omega arith) (omega (arith, ints)) (omega (arith, ints))))
    (c.in_ok-sw.ensures.shows p a (b +ℤ pos 2) (part 0 2 (place + 16) p a b a (b +ℤ pos 2) shows (omega arith) (omega arith) (omega arith) (omega (arith, ints)) (omega (arith, ints))))
    (c.in_ok-se.ensures.shows p (a +ℤ pos 2) (b +ℤ pos 2) (part 2 2 (place + 18) p a b (a +ℤ pos 2) (b +ℤ pos 2) shows (omega arith) (omega arith) (omega arith) (omega (arith, ints)) (omega (arith, ints)))))
