use Rattle.std.proofs.Common.{◌<◌, ◌∙◌, sym, subst}
use Rattle.std.specs.List.{All}
use Rattle.ca_plane.specs.Prelude.{Picture, IsInRange}
use Rattle.ca_plane.proofs.Pictures.{cells_end}
use Rattle.ca_library_tests.proofs.tests.writers.fits.Goals as goal

-- at the end all cells have come
pub returns-clause-range : goal.returns-clause-range
returns-clause-range c = λ _.
    let all = cells_end c.args.plane.now _ _ _ _ _ (c.into_iter-point-iterator.ensures.into_iter_gives ∙ c.cells-point-items.ensures.all) c.cells.yielded_by c.in-None.is c.next.ensures.steps in
    subst (λ (p : Picture). All (λ e. IsInRange e.0) p) (sym all) c.cells.invariant.range

pub returns-clause-states : goal.returns-clause-states
returns-clause-states c = λ _.
    let all = cells_end c.args.plane.now _ _ _ _ _ (c.into_iter-point-iterator.ensures.into_iter_gives ∙ c.cells-point-items.ensures.all) c.cells.yielded_by c.in-None.is c.next.ensures.steps in
    subst (λ (p : Picture). All (λ e. e.1 < 2) p) (sym all) c.cells.invariant.states
