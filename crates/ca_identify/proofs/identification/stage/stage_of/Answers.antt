use Rattle.std.proofs.Common.{rules, subst, sym, ap₂, ◌∙◌, w64, SFits}
use Rattle.std.proofs.lemmas.Int.{to_z-of_z}
use Rattle.ca_quad.specs.Prelude.{IsDead, IsLeastWideBox, AreSquareBoxes, shifted_cells, cell}
use Rattle.ca_quad.proofs.Measures.{boxes_stay}
use Rattle.ca_identify.specs.inner.Stages.{AreMovedNowhere}
use Rattle.ca_pattern.proofs.Starts.{near_start}
use Rattle.ca_identify.proofs.Stages.{wide_box, first_box}
use Rattle.ca_identify.proofs.identification.stage.stage_of.Goals as goal

pub bounds_with-requires-clause-boxes : goal.bounds_with-requires-clause-boxes
bounds_with-requires-clause-boxes g c = subst (λ s. AreSquareBoxes s c.args.boxes.now) (sym c.store.ensures.nodes) c.requires.boxes

pub returns-in_default-clause-boxes : goal.returns-in_default-clause-boxes
returns-in_default-clause-boxes g c = subst (λ s. AreSquareBoxes s c.bounds_with.new.boxes) c.store.ensures.nodes c.in_ok-bounds.ensures.boxes

pub returns-in_default-vector_between-clause-boxes : goal.returns-in_default-vector_between-clause-boxes
returns-in_default-vector_between-clause-boxes g c = subst (λ s. AreSquareBoxes s c.bounds_with.new.boxes) c.store.ensures.nodes c.in_ok-bounds.ensures.boxes

pub returns-in-Some-2-clause-boxes : goal.returns-in-Some-2-clause-boxes
returns-in-Some-2-clause-boxes g c =
    boxes_stay c.args.leaper.now.nodes c.vector_if_back.new.leaper.nodes c.store.ensures.sound c.in_ok-dx.ensures.goes_on.grows _ (subst (λ s. AreSquareBoxes s c.bounds_with.new.boxes) c.store.ensures.nodes c.in_ok-bounds.ensures.boxes)

pub returns-in-None-clause-boxes : goal.returns-in-None-clause-boxes
returns-in-None-clause-boxes g c =
    boxes_stay c.args.leaper.now.nodes c.vector_if_back.new.leaper.nodes c.store.ensures.sound c.in_ok-dx.ensures.goes_on.grows _ (subst (λ s. AreSquareBoxes s c.bounds_with.new.boxes) c.store.ensures.nodes c.in_ok-bounds.ensures.boxes)

pub returns-in_default-clause-stage : goal.returns-in_default-clause-stage
returns-in_default-clause-stage g c =
    subst (λ s. IsDead (cell s c.args.now.now)) c.store.ensures.nodes (rw c.in_default.is at c.in_ok-bounds.ensures.bounds)

pub vector_between-requires-clause-from : goal.vector_between-requires-clause-from
vector_between-requires-clause-from g c = first_box c.args.leaper.now.nodes c.args.first.now c.requires.first

pub vector_between-requires-clause-to : goal.vector_between-requires-clause-to
vector_between-requires-clause-to g c =
    let box = subst (λ s. IsLeastWideBox (cell s c.args.now.now) c.in-Some.bounds) c.store.ensures.nodes (rw c.in-Some.is at c.in_ok-bounds.ensures.bounds) in
    wide_box (cell c.args.leaper.now.nodes c.args.now.now) c.in-Some.bounds box c.requires.now.near

pub returns-in_default-vector_between-clause-stage : goal.returns-in_default-vector_between-clause-stage
returns-in_default-vector_between-clause-stage g c =
    let nodes = c.args.leaper.now.nodes in
    let box = subst (λ s. IsLeastWideBox (cell s c.args.now.now) c.in-Some.bounds) c.store.ensures.nodes (rw c.in-Some.is at c.in_ok-bounds.ensures.bounds) in
    let nowhere = rw c.in_default-vector_between.is at (c.vector_between.ensures (cell nodes c.args.first.now.tree) (cell nodes c.args.now.now) c.requires.first.box box) in
    ((c.in-Some.bounds.x0, box.left.0, box.left.1), nowhere)

pub vector_if_back-requires-clause-first : goal.vector_if_back-requires-clause-first
vector_if_back-requires-clause-first g c = near_start c.args.leaper.now.nodes c.args.first.now.tree c.requires.first.start

pub vector_if_back-requires-clause-only : goal.vector_if_back-requires-clause-only
vector_if_back-requires-clause-only g c = λ dx dy is.
    let nodes = c.args.leaper.now.nodes in
    let first = c.args.first.now.tree in
    let fits_x : SFits w64 c.in-Some-vector_between.dx = search rules in
    let fits_y : SFits w64 c.in-Some-vector_between.dy = search rules in
    let box = subst (λ s. IsLeastWideBox (cell s c.args.now.now) c.in-Some.bounds) c.store.ensures.nodes (rw c.in-Some.is at c.in_ok-bounds.ensures.bounds) in
    let only = rw c.in-Some-vector_between.is at (c.vector_between.ensures (cell nodes first) (cell nodes c.args.now.now) c.requires.first.box box) in
    let vector = only dx dy is in
    (vector.0 ∙ sym (to_z-of_z w64 c.in-Some-vector_between.dx fits_x), vector.1 ∙ sym (to_z-of_z w64 c.in-Some-vector_between.dy fits_y))

pub returns-in-Some-2-clause-stage : goal.returns-in-Some-2-clause-stage
returns-in-Some-2-clause-stage g c = λ x y.
    let nodes = c.args.leaper.now.nodes in
    let first = c.args.first.now.tree in
    let dx = c.in-Some-2.dx in
    let dy = c.in-Some-2.dy in
    let fits_x : SFits w64 dx = search rules in
    let fits_y : SFits w64 dy = search rules in
    let moved = rw c.in-Some-2.is at c.in_ok-dx.ensures.back in
    moved x y ∙ ap₂ (λ a b. shifted_cells (cell nodes first) a b x y) (sym (to_z-of_z w64 dx fits_x)) (sym (to_z-of_z w64 dy fits_y))

pub returns-in-None-clause-stage : goal.returns-in-None-clause-stage
returns-in-None-clause-stage g c =
    let nodes = c.args.leaper.now.nodes in
    let first = c.args.first.now.tree in
    let box = subst (λ s. IsLeastWideBox (cell s c.args.now.now) c.in-Some.bounds) c.store.ensures.nodes (rw c.in-Some.is at c.in_ok-bounds.ensures.bounds) in
    let nowhere = rw c.in-None.is at c.in_ok-dx.ensures.back in
    ((c.in-Some.bounds.x0, box.left.0, box.left.1), nowhere)

pub returns-then-not-branch-clause-stage : goal.returns-then-not-branch-clause-stage
returns-then-not-branch-clause-stage g c =
    let first = c.args.first.now.tree in
    let now = c.args.now.now in
    let box = subst (λ s. IsLeastWideBox (cell s now) c.in-Some.bounds) c.store.ensures.nodes (rw c.in-Some.is at c.in_ok-bounds.ensures.bounds) in
    let nowhere = subst (λ s. AreMovedNowhere (cell s first) (cell s now)) c.store-then-dy-ne0.ensures.nodes (c.in_ok-may_be_moved.ensures c.if-not-branch.true) in
    ((c.in-Some.bounds.x0, box.left.0, box.left.1), nowhere)

pub returns-then-not-branch-clause-boxes : goal.returns-then-not-branch-clause-boxes
returns-then-not-branch-clause-boxes g c = subst (λ s. AreSquareBoxes s c.bounds_with.new.boxes) c.store.ensures.nodes c.in_ok-bounds.ensures.boxes
