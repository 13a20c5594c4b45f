use Rattle.std.proofs.Common.{◌≡◌, ◌≤◌, ℕ, ◌-◌, ◌^◌, ap, ◌∙◌, arith}
use Rattle.ca_quad.proofs.Differ.{trees_differ, way_fits}
use Rattle.ca_quad.proofs.store.Store.difference.Goals as goal

pub from_middle-requires-clause-way : goal.from_middle-requires-clause-way
from_middle-requires-clause-way c =
    let most : c.args.a.level ≤ 125 = omega (arith, c.level.ensures.level, c.level.ensures.most, c.requires.a.is_level) in
    way_fits c.args.a.level c.in_ok-x.x most (c.in_ok-x.ensures c.args.a.level c.requires.a).x_in

pub from_middle-requires-2-clause-way : goal.from_middle-requires-2-clause-way
from_middle-requires-2-clause-way c =
    let most : c.args.a.level ≤ 125 = omega (arith, c.level.ensures.level, c.level.ensures.most, c.requires.a.is_level) in
    way_fits c.args.a.level c.in_ok-x.y most (c.in_ok-x.ensures c.args.a.level c.requires.a).y_in

pub returns-clause-none : goal.returns-clause-none
returns-clause-none c =
    let half : c.half_side-half.result ≡ 2 ^ (c.args.a.level - 1) = c.half_side-half.ensures.half ∙ ap (λ (k : ℕ). 2 ^ (k - 1)) (c.level.ensures.level ∙ c.requires.a.is_level) in (
      λ e. absurd cc,
      λ same.
          absurd
          (trees_differ c.args.self.now c.args.a c.args.b c.requires.level c.half_side-half.result half c.from_middle.result c.from_middle-2.result c.in_ok-x.x c.in_ok-x.y
          c.from_middle.ensures c.from_middle-2.ensures (c.in_ok-x.ensures c.args.a.level c.requires.a) (same c.from_middle.result c.from_middle-2.result)),
    )
