use Rattle.std.proofs.Common.{◌≡◌, ℕ, ◌-◌, ◌^◌, ap, subst, ◌∙◌, arith}
use Rattle.ca_quad.specs.Prelude.{cell_of}
use Rattle.ca_quad.specs.inner.Extent.{IsSquareExtent}
use Rattle.ca_quad.proofs.Boxes.{box_within, tree_box}
use Rattle.ca_quad.proofs.store.Store.bounds_with.Goals as goal

pub bounds_from_middle-requires-clause-within : goal.bounds_from_middle-requires-clause-within
bounds_from_middle-requires-clause-within c =
    let tree = c.args.tree in
    let level : c.level.result ≡ tree.level = c.level.ensures.level ∙ c.requires.tree.is_level in
    let half : c.half_side-half.result ≡ 2 ^ (tree.level - 1) = c.half_side-half.ensures.half ∙ ap (λ (k : ℕ). 2 ^ (k - 1)) level in
    box_within c.args.self.now tree c.half_side-half.result half (omega (arith, level, c.level.ensures.least)) c.in-Some.extent
    (subst (IsSquareExtent (cell_of c.args.self.now tree.level tree.root) (2 ^ tree.level) (2 ^ tree.level)) c.in-Some.is (c.in_ok-extent.ensures.measure tree.level c.requires.tree))

pub returns-clause-bounds : goal.returns-clause-bounds
returns-clause-bounds c =
    let tree = c.args.tree in
    let level : c.level.result ≡ tree.level = c.level.ensures.level ∙ c.requires.tree.is_level in
    let half : c.half_side-half.result ≡ 2 ^ (tree.level - 1) = c.half_side-half.ensures.half ∙ ap (λ (k : ℕ). 2 ^ (k - 1)) level in
    tree_box c.args.self.now tree c.half_side-half.result half (2 ^ tree.level) (2 ^ tree.level) c.in-Some.extent c.bounds_from_middle.result
    (subst (IsSquareExtent (cell_of c.args.self.now tree.level tree.root) (2 ^ tree.level) (2 ^ tree.level)) c.in-Some.is (c.in_ok-extent.ensures.measure tree.level c.requires.tree))
    c.bounds_from_middle.ensures.x0 c.bounds_from_middle.ensures.y0 c.bounds_from_middle.ensures.x1 c.bounds_from_middle.ensures.y1
