use Rattle.std.proofs.Common.{◌≡◌, rules, w64, to_z, of_z, SFits, ap, ◌∙◌}
use Rattle.std.specs.Prelude.{ℤ}
use Rattle.std.specs.Int.{w128}
use Rattle.std.proofs.lemmas.Int.{to_z-of_z}
use Rattle.ca_clusters.proofs.part.round_part.Goals as goal

-- a way that fits the fields of a part that comes back stays as it is
narrowed : (d : ℤ) → SFits w128 d → SFits w64 d → to_z w64 (of_z w64 (to_z w128 (of_z w128 d))) ≡ d
narrowed d wide fits = ap (λ e. to_z w64 (of_z w64 e)) (to_z-of_z w128 d wide) ∙ to_z-of_z w64 d fits

pub returns-clause-shows : goal.returns-clause-shows
returns-clause-shows c =
    let wide_across : SFits w128 c.args.shift.dx = search rules in
    let wide_down : SFits w128 c.args.shift.dy = search rules in
    let fits_across : SFits w64 c.args.shift.dx = search (rules, c.requires.across) in
    let fits_down : SFits w64 c.args.shift.dy = search (rules, c.requires.down) in
    let across = narrowed c.args.shift.dx wide_across fits_across in
    let down = narrowed c.args.shift.dy wide_down fits_down in
    let some = c.in-Some.ensures.some in
    cc
