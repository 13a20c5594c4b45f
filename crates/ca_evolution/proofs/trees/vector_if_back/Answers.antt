use Rattle.std.proofs.Common.{◌≡◌, refl, sym, subst, ◌∙◌, w64, to_z, of_z}
use Rattle.std.specs.Prelude.{ℤ}
use Rattle.std.proofs.lemmas.Int.{to_z-of_z}
use Rattle.ca_quad.specs.Prelude.{HasCellOutsidePlane, shifted_cells, cell}
use Rattle.ca_quad.proofs.Trims.{trees_stay}
use Rattle.ca_run.proofs.LeaperGrowth.{goes_on_again}
use Rattle.ca_pattern.proofs.Corners.{not_leaves, no_move}
use Rattle.ca_evolution.proofs.trees.vector_if_back.Goals as goal

pub returns-in_default-clause-back : goal.returns-in_default-clause-back
returns-in_default-clause-back g c = λ dx dy is.
    let first = cell c.args.leaper.now.nodes c.args.first in
    let only = c.requires.only dx dy is in
    let leaves = rw c.in_default.is at c.in_ok-moved.ensures.moved in
    not_leaves first (cell c.args.leaper.now.nodes c.args.now) dx dy is c.requires.now.near
    (subst (λ a. HasCellOutsidePlane (shifted_cells first a dy)) (to_z-of_z w64 c.args.dx c.ranges.dx ∙ sym only.0)
    (subst (λ b. HasCellOutsidePlane (shifted_cells first (to_z w64 (of_z w64 c.args.dx)) b)) (to_z-of_z w64 c.args.dy c.ranges.dy ∙ sym only.1) leaves))

pub returns-in-None-clause-back : goal.returns-in-None-clause-back
returns-in-None-clause-back g c = λ x y.
    let mid = c.moved_inside.new.leaper.nodes in
    let moved = rw c.in-Some.is at c.in_ok-moved.ensures.moved in
    let same : (x y : ℤ) → cell mid c.args.now x y ≡ cell mid c.in-Some.moved x y = c.in_ok-difference.ensures.none.0 (rw c.in-None.is refl) in
    sym (trees_stay c.args.leaper.now.nodes mid c.store.ensures.sound c.in_ok-moved.ensures.goes_on.grows c.args.now c.requires.now.is_tree x y) ∙ same x y ∙ moved.shows x y

pub returns-in-None-clause-goes_on : goal.returns-in-None-clause-goes_on
returns-in-None-clause-goes_on g c = goes_on_again _ c.args.leaper.now c.moved_inside.new.leaper c.difference.new.self c.in_ok-moved.ensures.goes_on c.in_ok-difference.ensures.goes_on

pub returns-in-Some-2-clause-back : goal.returns-in-Some-2-clause-back
returns-in-Some-2-clause-back g c =
    let old = c.args.leaper.now.nodes in
    let mid = c.moved_inside.new.leaper.nodes in
    let moved = rw c.in-Some.is at c.in_ok-moved.ensures.moved in
    let at = c.in-Some-2.field-0 in
    no_move old c.args.now c.args.first (to_z w64 (of_z w64 c.args.dx)) (to_z w64 (of_z w64 c.args.dy)) (cell mid c.args.now) (cell mid c.in-Some.moved)
    (λ dx dy is. ((c.requires.only dx dy is).0 ∙ sym (to_z-of_z w64 c.args.dx c.ranges.dx), (c.requires.only dx dy is).1 ∙ sym (to_z-of_z w64 c.args.dy c.ranges.dy)))
    (trees_stay old mid c.store.ensures.sound c.in_ok-moved.ensures.goes_on.grows c.args.now c.requires.now.is_tree) moved.shows at.x at.y (rw c.in-Some-2.is at c.in_ok-difference.ensures.some)

pub returns-in-Some-2-clause-goes_on : goal.returns-in-Some-2-clause-goes_on
returns-in-Some-2-clause-goes_on g c = goes_on_again _ c.args.leaper.now c.moved_inside.new.leaper c.difference.new.self c.in_ok-moved.ensures.goes_on c.in_ok-difference.ensures.goes_on
