use Rattle.std.proofs.Common.{◌<◌, ◌∙◌, sym, subst}
use Rattle.std.specs.List.{All}
use Rattle.ca_plane.specs.Prelude.{Picture}
use Rattle.ca_plane.proofs.Pictures.{cells_end}
use Rattle.ca_library_tests.proofs.tests.generations.has_two_states.Goals as goal

-- at the end all cells have come
pub returns : goal.returns
returns c = λ _.
    let all = cells_end c.args.plane.now _ _ _ _ _ (c.into_iter-state-iterator.ensures.into_iter_gives ∙ c.cells-state-items.ensures.all) c.cells.yielded_by c.in-None.is c.next.ensures.steps in
    subst (λ (p : Picture). All (λ e. e.1 < 2) p) (sym all) c.cells.invariant
