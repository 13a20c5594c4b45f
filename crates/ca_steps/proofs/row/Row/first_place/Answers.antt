use Rattle.std.proofs.Common.{arith}
use Rattle.std.specs.Prelude.{◌≢◌, pos}
use Rattle.std.proofs.lemmas.Int.{ints}
use Rattle.ca_plane.specs.Prelude.{cell}
use Rattle.ca_steps.proofs.Reading.{IsFirstPlace-moved}
use Rattle.ca_steps.proofs.row.Row.first_place.Goals as goal

pub returns : goal.returns
returns c =
    let within = c.in_ok-point.ensures.within in
    IsFirstPlace-moved (λ x y. cell c.args.self.now.ahead x y ≢ 0) c.in_ok-point.point _ (pos 1) c.args.dy c.in_ok-point.ensures.first (omega (arith, ints)) (omega (arith, ints))
