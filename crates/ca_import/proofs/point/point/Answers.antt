use Rattle.std.proofs.Common.{sym, ◌∙◌, arith}
use Rattle.std.proofs.lemmas.Bool.{true≢false}
use Rattle.std.proofs.lemmas.Int.{ints}
use Rattle.ca_plane.specs.declared.point.Point.{Point}
use Rattle.ca_import.proofs.Points.{writes_far_point}
use Rattle.ca_import.proofs.point.point.Goals as goal

pub returns-in_default-clause-fault : goal.returns-in_default-clause-fault
returns-in_default-clause-fault c = λ at h. c.in_default.ensures at.x h.x_is

pub returns-in_default-integer-clause-fault : goal.returns-in_default-integer-clause-fault
returns-in_default-integer-clause-fault c = λ at h. c.in_default-integer.ensures at.y h.y_is

pub returns-then-not-is_in_range-clause-fault : goal.returns-then-not-is_in_range-clause-fault
returns-then-not-is_in_range-clause-fault c =
    let x = c.in-Some.ensures in
    let y = c.in-Some-integer.ensures in
    let at : Point = record { y = c.in-Some-integer.y; x = c.in-Some.x } in
    writes_far_point c.args.x.now c.args.y.now x.0 y.0 at x.1 y.1 x.2 y.2
    (λ within.
    let west = within.0 in
    let east = within.1 in
    let north = within.2 in
    let south = within.3 in
    let inside = c.is_in_range.ensures.1 (omega (arith, ints, west, east), omega (arith, ints, west, east), omega (arith, ints, north, south), omega (arith, ints, north, south)) in
    true≢false (sym inside ∙ c.if-not-is_in_range.true))
