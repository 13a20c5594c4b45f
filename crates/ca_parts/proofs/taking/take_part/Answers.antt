use Rattle.std.proofs.lemmas.Result.{IfOk-weaker}
use Rattle.ca_plane.specs.Prelude.{Picture, IsSame}
use Rattle.ca_parts.specs.inner.Taking.{TakesPart}
use Rattle.ca_parts.proofs.Chains.{part_from_reached, live_listed, TakesPart-same}
use Rattle.ca_parts.proofs.taking.take_part.Goals as goal

pub returns : goal.returns
returns c =
    let l = c.args.left.now.items in
    let left = c.take_reached.new.left.items in
    let taken = c.in_ok-taken.taken.items in
    let start = live_listed c.args.at l c.args.place c.requires.rising c.requires.within c.requires.live in
    let part = part_from_reached c.args.reach c.args.at l left taken c.in_ok-taken.ensures.reached start c.requires.rising c.args.place c.requires.within c.requires.live c.requires.first in
    IfOk-weaker c.from_cells.result (λ (q : Picture). IsSame q taken) (TakesPart c.args.reach c.args.at l left) (λ q same. TakesPart-same c.args.reach c.args.at l left taken q same part) c.from_cells.ensures.same
