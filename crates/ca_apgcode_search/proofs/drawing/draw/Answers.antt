use Rattle.std.proofs.Common.{sym, subst, ◌∙◌, arith}
use Rattle.std.specs.List.{All}
use Rattle.ca_plane.specs.Prelude.{Picture}
use Rattle.ca_plane.proofs.Pictures.{IsListed-turn, cells_end}
use Rattle.ca_apgcode_search.specs.inner.Drawn.{IsLiveAt}
use Rattle.ca_apgcode_search.proofs.Drawings.{all_live, no_other_still, IsDrawn-all}
use Rattle.ca_apgcode_search.proofs.drawing.draw.Goals as goal

pub put_cell-requires-clause-inside : goal.put_cell-requires-clause-inside
put_cell-requires-clause-inside c =
    let listed = IsListed-turn c.args.plane.now _ _ _ _ _ _ c.cells-at-items.ensures.sparse (c.into_iter-at-iterator.ensures.into_iter_gives ∙ c.cells-at-items.ensures.all) c.cells.yielded_by c.in-Some.is c.next.ensures.steps in
    c.requires.inside c.in-Some.at.x c.in-Some.at.y (λ none. omega (arith, listed.shown, listed.low, none))

pub cells-preserved : goal.cells-preserved
cells-preserved c =
    let listed = IsListed-turn c.args.plane.now _ _ _ _ _ _ c.cells-at-items.ensures.sparse (c.into_iter-at-iterator.ensures.into_iter_gives ∙ c.cells-at-items.ensures.all) c.cells.yielded_by c.in-Some.is c.next.ensures.steps in
    let window = c.args.window.now in
    let old = c.cells.grid in
    let new = c.put_cell.new.grid in
    let put = c.put_cell.ensures.puts in
    record {
      fits = c.put_cell.ensures.fits;
      drawn = all_live window old new c.in-Some.at c.in-Some.field-0-1 c.cells.yielded put c.cells.invariant.drawn;
      no_other = no_other_still window c.in-Some.at old new put c.args.plane.now (λ none. omega (arith, listed.shown, listed.low, none)) c.cells.invariant.no_other;
    }

pub returns : goal.returns
returns c =
    let window = c.args.window.now in
    let grid = c.cells.grid in
    let all = cells_end c.args.plane.now _ _ _ _ _ (c.into_iter-at-iterator.ensures.into_iter_gives ∙ c.cells-at-items.ensures.all) c.cells.yielded_by c.in-None.is c.next.ensures.steps in
    IsDrawn-all c.args.plane.now window grid c.cells.invariant.fits (subst (λ (p : Picture). All (λ e. IsLiveAt window grid e.0) p) (sym all) c.cells.invariant.drawn) c.cells.invariant.no_other
