use Rattle.std.proofs.Common.{◌≡◌, ◌^◌, refl, sym, subst}
use Rattle.std.specs.Prelude.{pos, neg_ℤ, ◌+ℤ◌}
use Rattle.ca_bricks.specs.Prelude.{eight, LiesWithin, IsAligned}
use Rattle.ca_run.proofs.Grids.{corner_near, grid_cells}
use Rattle.ca_run.proofs.leaper.Leaper.tree_of.Goals as goal

pub corner-requires-clause-within : goal.corner-requires-clause-within
corner-requires-clause-within g c = subst (LiesWithin (2 ^ c.args.reach)) (sym c.live.ensures.grid) c.requires.within

pub corner-requires-clause-aligned : goal.corner-requires-clause-aligned
corner-requires-clause-aligned g c = subst IsAligned (sym c.live.ensures.grid) c.requires.aligned

pub from_grid-requires-clause-near : goal.from_grid-requires-clause-near
from_grid-requires-clause-near g c =
    corner_near c.live.result.now c.args.reach c.corner.result c.requires.most (subst (LiesWithin (2 ^ c.args.reach)) (sym c.live.ensures.grid) c.requires.within) c.corner.ensures.x c.corner.ensures.y

pub returns-clause-cells : goal.returns-clause-cells
returns-clause-cells g c = λ m p shows.
    let at = c.corner.result in
    let far = neg_ℤ (pos (2 ^ c.args.reach)) in
    let is = c.live.ensures.grid in
    grid_cells c.from_grid.new.self.nodes c.in_ok-root.root c.args.reach (g.S.SquareGrid.live_grid c.args.grid.now) m p at.i at.j _ c.requires.least (g.met.S.SquareGrid.margin c.args.grid.now m p shows) c.requires.within
    (subst (λ w. w.x +ℤ eight at.i ≡ far) is c.corner.ensures.x) (subst (λ w. w.y +ℤ eight at.j ≡ far) is c.corner.ensures.y) (c.in_ok-root.ensures.shows m p shows) refl refl
