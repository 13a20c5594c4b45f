use Rattle.std.proofs.Common.{refl, ◌∙◌, sym, subst}
use Rattle.std.specs.List.{All}
use Rattle.ca_plane.specs.Prelude.{Picture}
use Rattle.std.proofs.lemmas.List.Elements.{All-push}
use Rattle.ca_plane.proofs.Pictures.{IsListed-turn, cells_end}
use Rattle.ca_steps.specs.Prelude.{IsInReach}
use Rattle.ca_steps.proofs.OutOfReach.{IsOutOfReach-listed}
use Rattle.ca_steps.proofs.generations.is_all_in_reach.Goals as goal

pub cells-preserved : goal.cells-preserved
cells-preserved c = All-push (λ e. IsInReach e.0.x e.0.y) c.cells.yielded _ c.cells.invariant (c.if-not-is_in_reach.ensures.0 refl)

pub returns-then-not-is_in_reach-clause-outside : goal.returns-then-not-is_in_reach-clause-outside
returns-then-not-is_in_reach-clause-outside c =
    let listed = IsListed-turn c.args.plane.now _ _ _ _ _ _ c.cells-at-items.ensures.sparse (c.into_iter-at-iterator.ensures.into_iter_gives ∙ c.cells-at-items.ensures.all) c.cells.yielded_by c.in-Some.is c.next.ensures.steps in
    λ _. IsOutOfReach-listed c.args.plane.now _ listed c.if-not-is_in_reach.ensures.1

pub returns-clause-inside : goal.returns-clause-inside
returns-clause-inside c =
    let all = cells_end c.args.plane.now _ _ _ _ _ (c.into_iter-at-iterator.ensures.into_iter_gives ∙ c.cells-at-items.ensures.all) c.cells.yielded_by c.in-None.is c.next.ensures.steps in
    λ _. subst (λ (p : Picture). All (λ e. IsInReach e.0.x e.0.y) p) (sym all) c.cells.invariant
