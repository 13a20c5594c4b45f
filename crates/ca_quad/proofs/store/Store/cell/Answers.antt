use Rattle.std.proofs.Common.{FitsSigned, ◌≡◌, ℕ, ◌-◌, ◌^◌, ap, sym, ◌∙◌, arith}
use Rattle.std.specs.Int.{w128}
use Rattle.std.proofs.lemmas.Int.{to_z-of_z, ints}
use Rattle.ca_quad.proofs.Edges.{outside_x, outside_y}
use Rattle.ca_quad.proofs.store.Store.cell.Goals as goal

pub returns-in_default : goal.returns-in_default
returns-in_default c =
    let level : c.level.result ≡ c.args.tree.level = c.level.ensures.level ∙ c.requires.is_level in
    let fits : FitsSigned w128 c.args.at.x = omega (arith, ints) in
    let off = simp (to_z-of_z, fits) at c.in_default.ensures.outside in
    sym
    (outside_x c.args.self.now c.args.tree c.half_side-half.result (omega (arith, c.level.ensures.least)) (c.half_side-half.ensures.half ∙ ap (λ (k : ℕ). 2 ^ (k - 1)) level)
    c.args.at.x c.args.at.y off)

pub returns-in_default-edge_distance : goal.returns-in_default-edge_distance
returns-in_default-edge_distance c =
    let level : c.level.result ≡ c.args.tree.level = c.level.ensures.level ∙ c.requires.is_level in
    let fits : FitsSigned w128 c.args.at.y = omega (arith, ints) in
    let off = simp (to_z-of_z, fits) at c.in_default-edge_distance.ensures.outside in
    sym
    (outside_y c.args.self.now c.args.tree c.half_side-half.result (omega (arith, c.level.ensures.least)) (c.half_side-half.ensures.half ∙ ap (λ (k : ℕ). 2 ^ (k - 1)) level)
    c.args.at.x c.args.at.y off)
