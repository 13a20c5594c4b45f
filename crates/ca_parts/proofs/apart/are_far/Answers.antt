use Rattle.std.proofs.Common.{refl, rules}
use Rattle.std.specs.Int.{w64, w128}
use Rattle.std.specs.Prelude.{FitsSigned}
use Rattle.std.proofs.lemmas.Int.{to_z-of_z}
use Rattle.ca_parts.proofs.TwoApart.{far_from_across, far_from_down}
use Rattle.ca_parts.proofs.apart.are_far.Goals as goal

pub returns-then-are_far_along : goal.returns-then-are_far_along
returns-then-are_far_along c = λ far.
    let dx : FitsSigned w128 c.args.way.dx = search rules in
    let low : FitsSigned w64 c.args.one.x0 = search rules in
    let high : FitsSigned w64 c.args.one.x1 = search rules in
    let other_low : FitsSigned w64 c.args.other.x0 = search rules in
    let other_high : FitsSigned w64 c.args.other.x1 = search rules in
    far_from_across c.args.one c.args.other c.args.way.dx c.args.way.dy (simp to_z-of_z at (c.if-are_far_along.ensures refl))

pub returns-else-are_far_along : goal.returns-else-are_far_along
returns-else-are_far_along c = λ far.
    let dy : FitsSigned w128 c.args.way.dy = search rules in
    let low : FitsSigned w64 c.args.one.y0 = search rules in
    let high : FitsSigned w64 c.args.one.y1 = search rules in
    let other_low : FitsSigned w64 c.args.other.y0 = search rules in
    let other_high : FitsSigned w64 c.args.other.y1 = search rules in
    far_from_down c.args.one c.args.other c.args.way.dx c.args.way.dy (simp to_z-of_z at (c.are_far_along-else-are_far_along.ensures far))
