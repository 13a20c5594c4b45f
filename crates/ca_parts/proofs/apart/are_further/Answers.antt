use Rattle.ca_parts.proofs.TwoApart.{further-back, back-further}
use Rattle.ca_parts.proofs.apart.are_further.Goals as goal

pub returns-then-len : goal.returns-then-len
returns-then-len c = rw (c.as_slice.ensures.all, c.as_slice-then-len.ensures.all) at c.is_each_far.ensures

pub returns-else-len : goal.returns-else-len
returns-else-len c =
    let one = c.args.one.now in
    let other = c.args.other.now in
    let way = c.args.way in
    let back = c.back.result in
    let told = rw (c.as_slice-else-len.ensures.all, c.as_slice-else-len-2.ensures.all) at c.is_each_far-else-len.ensures in
    (λ yes. further-back one other way.dx way.dy back.dx back.dy c.back.ensures.across c.back.ensures.down (told.0 yes), λ far. told.1 (back-further one other way.dx way.dy back.dx back.dy c.back.ensures.across c.back.ensures.down far))
