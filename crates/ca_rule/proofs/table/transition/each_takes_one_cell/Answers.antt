use Rattle.std.proofs.Common.{map, slice_index, sym}
use Rattle.ca_rule.proofs.Distinct.{distinct-take}
use Rattle.ca_rule.proofs.table.transition.each_takes_one_cell.Goals as goal

pub returns-then-are_distinct : goal.returns-then-are_distinct
returns-then-are_distinct c = sym (distinct-take c.args.slots.now (map (slice_index c.args.nine.now) c.args.places.now) (c.are_distinct.ensures.distinct c.if-are_distinct.true))
