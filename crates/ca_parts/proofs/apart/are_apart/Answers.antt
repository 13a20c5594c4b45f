use Rattle.ca_plane.specs.Prelude.{cell}
use Rattle.ca_parts.proofs.TwoApart.{still-further, further-still, apart_from_further, further_from_apart}
use Rattle.ca_parts.proofs.apart.are_apart.Goals as goal

pub returns : goal.returns
returns c =
    let one = c.args.one.now in
    let other = c.args.other.now in
    let way = c.of.result in (
      λ yes. apart_from_further (cell one) (cell other) (still-further one other way.dx way.dy c.of.ensures.across c.of.ensures.down (c.are_further.ensures.0 yes)),
      λ apart. c.are_further.ensures.1 (further-still one other way.dx way.dy c.of.ensures.across c.of.ensures.down (further_from_apart (cell one) (cell other) apart)),
    )
