use Rattle.ca_quad.specs.Prelude.{IsIn}
use Rattle.ca_quad.specs.inner.Measure.{IsMeasureOf, IsLookedUp}
use Rattle.ca_quad.proofs.KnownSquares.{four_unparted, put_known, put_keeps, walk_closed}
use Rattle.ca_quad.proofs.Measures.{measure_parts, one_more}
use Rattle.ca_quad.proofs.store.Store.+measure.Goals as goal

pub returns-in-Four-clause-measure : goal.returns-in-Four-clause-measure
returns-in-Four-clause-measure g t c = c.measure_of_cells.ensures c.args.self.now c.args.id c.in-Four.ensures.shows

pub returns-in_ok-put-in-Parts-clause-measure : goal.returns-in_ok-put-in-Parts-clause-measure
returns-in_ok-put-in-Parts-clause-measure g t c =
    measure_parts g.M.Measure.is c.args.self.now c.args.id c.in-Parts.level c.in-Parts.nw c.in-Parts.ne c.in-Parts.sw c.in-Parts.se c.in-Parts.ensures.shows c.in-Parts.ensures.whole
    c.half_side.result c.half_side.ensures.half c.in_ok-nw-in-Parts.nw c.in_ok-ne-in-Parts.ne c.in_ok-sw-in-Parts.sw c.in_ok-se-in-Parts.se c.of_four-measure.result
    c.in_ok-nw-in-Parts.ensures.measure c.in_ok-ne-in-Parts.ensures.measure c.in_ok-sw-in-Parts.ensures.measure c.in_ok-se-in-Parts.ensures.measure c.of_four-measure.ensures

pub returns-in_ok-put-in-Parts-clause-measures : goal.returns-in_ok-put-in-Parts-clause-measures
returns-in_ok-put-in-Parts-clause-measures g t c =
    one_more (λ id value. IsIn c.args.self.now id × IsMeasureOf g.M.Measure.is c.args.self.now id value) c.measure-in-Parts-3.new.measures c.put.new.self c.args.id c.of_four-measure.result c.in_ok-se-in-Parts.ensures.measures
    (c.requires.known, returns-in_ok-put-in-Parts-clause-measure g t c) c.in_ok-put-in-Parts.ensures.ok

pub returns-in-Four-clause-remembered : goal.returns-in-Four-clause-remembered
returns-in-Four-clause-remembered g t c = λ looked. absurd (four_unparted c.args.self.now c.args.id c.in-Four.nw c.in-Four.ne c.in-Four.sw c.in-Four.se c.in-Four.ensures.shows looked.0)

pub returns-in_ok-put-in-Parts-clause-remembered : goal.returns-in_ok-put-in-Parts-clause-remembered
returns-in_ok-put-in-Parts-clause-remembered g t c = λ looked. put_known c.measure-in-Parts-3.new.measures c.put.new.self c.args.id c.of_four-measure.result c.in_ok-put-in-Parts.ensures.ok

pub returns-in_ok-put-in-Parts-clause-kept : goal.returns-in_ok-put-in-Parts-clause-kept
returns-in_ok-put-in-Parts-clause-kept g t c = λ id some.
    put_keeps c.measure-in-Parts-3.new.measures c.put.new.self c.args.id c.of_four-measure.result c.in_ok-put-in-Parts.ensures.ok id
    (c.in_ok-se-in-Parts.ensures.kept id (c.in_ok-sw-in-Parts.ensures.kept id (c.in_ok-ne-in-Parts.ensures.kept id (c.in_ok-nw-in-Parts.ensures.kept id some))))

pub returns-in_ok-put-in-Parts-clause-closed : goal.returns-in_ok-put-in-Parts-clause-closed
returns-in_ok-put-in-Parts-clause-closed g t c = λ closed.
    walk_closed c.args.self.now c.args.id c.in-Parts.level c.in-Parts.nw c.in-Parts.ne c.in-Parts.sw c.in-Parts.se c.in-Parts.ensures.shows (IsLookedUp c.args.self.now)
    c.measure.new.measures c.measure-in-Parts.new.measures c.measure-in-Parts-2.new.measures c.measure-in-Parts-3.new.measures
    c.in_ok-nw-in-Parts.ensures.remembered c.in_ok-ne-in-Parts.ensures.remembered c.in_ok-sw-in-Parts.ensures.remembered c.in_ok-se-in-Parts.ensures.remembered
    c.in_ok-ne-in-Parts.ensures.kept c.in_ok-sw-in-Parts.ensures.kept c.in_ok-se-in-Parts.ensures.kept c.put.new.self c.of_four-measure.result c.in_ok-put-in-Parts.ensures.ok
    (c.in_ok-se-in-Parts.ensures.closed (c.in_ok-sw-in-Parts.ensures.closed (c.in_ok-ne-in-Parts.ensures.closed (c.in_ok-nw-in-Parts.ensures.closed closed))))
