use Rattle.std.proofs.Common.{refl, arith}
use Rattle.ca_parts.proofs.RowOrder.{true_and_false}
use Rattle.ca_parts.proofs.TwoApart.{further_from_each, far_more, not_further}
use Rattle.ca_parts.proofs.apart.is_each_far.Goals as goal

pub returns-then-is_near : goal.returns-then-is_near
returns-then-is_near c = (
  λ no. absurd (true_and_false _ no refl),
  λ far. absurd (not_further c.args.cells.now c.args.others.now c.args.way.dx c.args.way.dy c.cells.at-index _ c.requires.sparse (omega arith) (c.if-is_near.ensures.near refl) far),
)

pub cells-preserved : goal.cells-preserved
cells-preserved c = far_more c.args.cells.now c.args.others.now c.args.way.dx c.args.way.dy c.cells.at-index _ (omega arith) (c.if-is_near.ensures.far refl) c.cells.invariant

pub returns : goal.returns
returns c = (
  λ _. further_from_each c.args.cells.now c.args.others.now c.args.way.dx c.args.way.dy c.cells.at-index c.requires.sparse (omega arith) c.cells.invariant,
  λ _. refl,
)
