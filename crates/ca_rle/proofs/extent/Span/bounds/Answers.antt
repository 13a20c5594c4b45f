use Rattle.std.proofs.Common.{arith}
use Rattle.std.proofs.lemmas.Int.{ints}
use Rattle.ca_rle.proofs.Frames.{box_same}
use Rattle.ca_rle.proofs.extent.Span.bounds.Goals as goal

pub returns : goal.returns
returns c =
    let (x, xs, y, ys) = c.requires.corner in
    let upper = c.requires.near.upper in
    let lower = c.requires.near.lower in
    box_same _ _ (omega (arith, ints, x, xs, upper.0, upper.1)) (omega (arith, ints, y, ys, upper.2, upper.3)) (omega (arith, ints, x, xs, lower.0, lower.1)) (omega (arith, ints, y, ys, lower.2, lower.3))
