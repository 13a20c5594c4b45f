use Rattle.std.proofs.Common.{inr, arith}
use Rattle.std.proofs.lemmas.Int.{ints}
use Rattle.ca_plane.proofs.Pictures.{point-same}
use Rattle.ca_rle.proofs.Frames.{some_in_range, framed}
use Rattle.ca_rle.proofs.write.frame.of.Goals as goal

pub distance-requires : goal.distance-requires
distance-requires c =
    let box = some_in_range _ _ c.in-Some.is c.requires in
    omega (arith, ints, box.wide, box.upper.0, box.upper.1, box.lower.0, box.lower.1)

pub distance-requires-2 : goal.distance-requires-2
distance-requires-2 c =
    let box = some_in_range _ _ c.in-Some.is c.requires in
    omega (arith, ints, box.high, box.upper.2, box.upper.3, box.lower.2, box.lower.3)

pub overflow_add-result : goal.overflow_add-result
overflow_add-result c =
    let box = some_in_range _ _ c.in-Some.is c.requires in
    omega (arith, ints, box.upper.0, box.upper.1, box.lower.0, box.lower.1)

pub overflow_add-result-2 : goal.overflow_add-result-2
overflow_add-result-2 c =
    let box = some_in_range _ _ c.in-Some.is c.requires in
    omega (arith, ints, box.upper.2, box.upper.3, box.lower.2, box.lower.3)

pub returns : goal.returns
returns c = λ cells bounds.
    inr (c.in-Some.bounds, framed cells _ _ c.in-Some.is bounds, point-same _ _ (omega (arith, ints)) (omega (arith, ints)), omega (arith, ints), omega (arith, ints))
