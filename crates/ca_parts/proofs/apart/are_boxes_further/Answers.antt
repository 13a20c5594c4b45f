use Rattle.ca_parts.proofs.TwoApart.{further_from_boxes}
use Rattle.ca_parts.proofs.apart.are_boxes_further.Goals as goal

pub returns : goal.returns
returns c = λ yes.
    further_from_boxes c.args.one.now c.args.other.now c.in-Some.bounds c.in-Some-bounds.others c.args.way.dx c.args.way.dy c.in-Some.ensures.some c.in-Some-bounds.ensures.some (c.are_far.ensures yes)
