use Rattle.std.proofs.Common.{◌≡◌, ℕ, ◌-◌, ◌^◌, List, [], ◌∷◌, ◌++◌, ap, ◌∙◌, arith}
use Rattle.ca_quad.specs.declared.store.draw.PlacedSquare.{PlacedSquare}
use Rattle.ca_quad.specs.Prelude.{cell}
use Rattle.ca_quad.specs.inner.Drawn.{AreReady}
use Rattle.ca_quad.proofs.DrawnSquares.{tree_ready, tree_placed}
use Rattle.ca_quad.proofs.PaintedCells.{ready_one, painted_all}
use Rattle.ca_quad.proofs.store.Store.draw_plane.Goals as goal
use Rattle.ca_quad.proofs.store.Store.draw_plane.Goals.{After-deref}

module _ (c : After-deref) where
  abbrev root : PlacedSquare
  root = record { id = c.args.tree.root; at = c.first_corner.result }

  level : c.level-level.result ≡ c.args.tree.level
  level = c.level-level.ensures.level ∙ c.requires.tree.is_level

  half : c.half_side.result ≡ 2 ^ (c.args.tree.level - 1)
  half = c.half_side.ensures.half ∙ ap (λ (k : ℕ). 2 ^ (k - 1)) level

  items : c.deref.result.now ≡ [] ++ root ∷ []
  items = c.deref.ensures.value ∙ (c.in_ok-push.ensures.items ∙ ap (λ (ss : List PlacedSquare). ss ++ root ∷ []) c.new-squares.ensures.items)

  ready : AreReady c.args.self.now (cell c.args.self.now c.args.tree) c.level-level.result c.deref.result.now
  ready =
      ready_one c.args.self.now (cell c.args.self.now c.args.tree) c.args.tree.level c.level-level.result c.deref.result.now root level items
      (tree_ready c.args.self.now c.args.tree c.requires.tree (omega (arith, level, c.level-level.ensures.least)) c.half_side.result half c.half_side.ensures.low
      c.first_corner.result c.first_corner.ensures.x c.first_corner.ensures.y c.requires.fits)

pub draw_band-requires-clause-ready : goal.draw_band-requires-clause-ready
draw_band-requires-clause-ready c = (cell c.args.self.now c.args.tree, ready (goal.at.draw_band-requires-clause-ready c).After-deref)

pub returns-clause-shows : goal.returns-clause-shows
returns-clause-shows c =
    let a = (goal.at.returns-clause-shows c).After-deref in
    let same = tree_placed c.args.self.now c.args.tree c.requires.tree (omega (arith, level a, c.level-level.ensures.least)) c.half_side.result (half a) c.half_side.ensures.low
    c.first_corner.result c.first_corner.ensures.x c.first_corner.ensures.y in
    painted_all c.args.self.now (cell c.args.self.now c.args.tree) c.deref.result.now (root a) c.new-plane.result c.draw_band.new.plane (items a) c.new-plane.ensures same
    (c.in_ok-draw_band.ensures (cell c.args.self.now c.args.tree) (ready a))
