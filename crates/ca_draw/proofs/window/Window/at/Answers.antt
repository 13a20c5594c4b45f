use Rattle.std.proofs.Common.{FitsSigned, refl, rules}
use Rattle.std.specs.Int.{w128}
use Rattle.std.proofs.lemmas.Int.{to_z-of_z}
use Rattle.ca_draw.proofs.window.Window.at.Goals as goal

pub returns-clause-window : goal.returns-clause-window
returns-clause-window c =
    let f : FitsSigned w128 c.strip.result = search rules in
    let g : FitsSigned w128 c.strip-2.result = search rules in
    let x : FitsSigned w128 c.args.corner.x = search rules in
    let y : FitsSigned w128 c.args.corner.y = search rules in (
      simp (to_z-of_z, f, g) (rw (c.strip.ensures, c.strip-2.ensures) (simp (to_z-of_z, x, y) refl)),
      c.is_within_limits.ensures.0 (search rules),
    )
