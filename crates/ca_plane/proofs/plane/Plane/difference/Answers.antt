use Rattle.std.proofs.Common.{◌≡◌, ◌∷◌, ◌++◌, ◌∙◌, sym, subst}
use Rattle.std.proofs.lemmas.Map.Iter.{rest_more, rest_all}
use Rattle.ca_plane.specs.Prelude.{Picture}
use Rattle.ca_plane.proofs.Pictures.{cells_turn, cells_end}
use Rattle.ca_plane.proofs.CommonCells.{DifferAt-end, DifferAt-less, DifferAt-greater, DifferAt-states, DifferAt-longer, common_more, told}
use Rattle.ca_plane.proofs.plane.Plane.difference.Goals as goal
use Rattle.ca_plane.proofs.plane.Plane.difference.Goals.{In-Some, In-Some-next}

-- the plane's next cell, and the other's
here : (c : In-Some) → c.args.self.now ≡ c.cells.yielded ++ (c.in-Some.point, c.in-Some.state) ∷ c.next.new.self
here c = cells_turn c.args.self.now _ _ _ _ _ _ (c.into_iter-point-iterator.ensures.into_iter_gives ∙ c.cells-point-items.ensures.all) c.cells.yielded_by c.in-Some.is c.next.ensures.steps

next : (c : In-Some-next) → c.cells.others ≡ (c.in-Some-next.other_point, c.in-Some-next.other_state) ∷ c.next-in-cells.new.self
next c = rest_more (λ e. e) _ _ _ _ c.in-Some-next.is c.next-in-cells.ensures.steps

pub cells-init : goal.cells-init
cells-init c = sym c.cells-others.ensures.all

pub cells-preserved : goal.cells-preserved
cells-preserved c =
    let a = goal.at.cells-preserved c in
    common_more _ c.cells.yielded _ _ (c.in-Some.point, c.in-Some.state) (c.in-Some-next.other_point, c.in-Some-next.other_state) c.cells.invariant (next a.In-Some-next) (sym c.cmp.ensures ∙ c.in-Equal.is) c.if-state-other_state.false

pub returns-in_default-clause-some : goal.returns-in_default-clause-some
returns-in_default-clause-some c =
    let a = goal.at.returns-in_default-clause-some c in
    DifferAt-end _ _ c.cells.yielded _ _ (c.in-Some.point, c.in-Some.state) c.cells-point-items.ensures.sparse (here a.In-Some) c.cells.invariant (rest_all (λ e. e) _ _ _ c.in_default.is c.next-in-cells.ensures.steps)

pub returns-in_default-clause-none : goal.returns-in_default-clause-none
returns-in_default-clause-none c = told _ _ c.in-Some.point (returns-in_default-clause-some c)

pub returns-in-Less-clause-some : goal.returns-in-Less-clause-some
returns-in-Less-clause-some c =
    let a = goal.at.returns-in-Less-clause-some c in
    DifferAt-less _ _ c.cells.yielded _ _ _ (c.in-Some.point, c.in-Some.state) (c.in-Some-next.other_point, c.in-Some-next.other_state) c.cells-point-items.ensures.sparse c.cells-others.ensures.sparse (here a.In-Some) c.cells.invariant (next a.In-Some-next) (sym c.cmp.ensures ∙ c.in-Less.is)

pub returns-in-Less-clause-none : goal.returns-in-Less-clause-none
returns-in-Less-clause-none c = told _ _ c.in-Some.point (returns-in-Less-clause-some c)

pub returns-in-Greater-clause-some : goal.returns-in-Greater-clause-some
returns-in-Greater-clause-some c =
    let a = goal.at.returns-in-Greater-clause-some c in
    DifferAt-greater _ _ c.cells.yielded _ _ _ (c.in-Some.point, c.in-Some.state) (c.in-Some-next.other_point, c.in-Some-next.other_state) c.cells-point-items.ensures.sparse c.cells-others.ensures.sparse (here a.In-Some) c.cells.invariant (next a.In-Some-next) (sym c.cmp.ensures ∙ c.in-Greater.is)

pub returns-in-Greater-clause-none : goal.returns-in-Greater-clause-none
returns-in-Greater-clause-none c = told _ _ c.in-Some-next.other_point (returns-in-Greater-clause-some c)

pub returns-then-state-other_state-clause-some : goal.returns-then-state-other_state-clause-some
returns-then-state-other_state-clause-some c =
    let a = goal.at.returns-then-state-other_state-clause-some c in
    DifferAt-states _ _ c.cells.yielded _ _ _ (c.in-Some.point, c.in-Some.state) (c.in-Some-next.other_point, c.in-Some-next.other_state) c.cells-point-items.ensures.sparse c.cells-others.ensures.sparse (here a.In-Some) c.cells.invariant (next a.In-Some-next) (sym c.cmp.ensures ∙ c.in-Equal.is) c.if-state-other_state.true

pub returns-then-state-other_state-clause-none : goal.returns-then-state-other_state-clause-none
returns-then-state-other_state-clause-none c = told _ _ c.in-Some.point (returns-then-state-other_state-clause-some c)

pub returns-clause-some : goal.returns-clause-some
returns-clause-some c =
    let all = cells_end c.args.self.now _ _ _ _ _ (c.into_iter-point-iterator.ensures.into_iter_gives ∙ c.cells-point-items.ensures.all) c.cells.yielded_by c.in-None.is c.next.ensures.steps in
    let both = subst (λ (p : Picture). c.args.other.now ≡ p ++ c.cells.others) (sym all) c.cells.invariant in
    DifferAt-longer _ _ _ _ (c.in_ok-point.point, c.in_ok-point.field-0-1) c.cells-others.ensures.sparse both (rest_more (λ e. e) _ _ _ _ c.in_ok-point.was c.next-2.ensures.steps)

pub returns-clause-none : goal.returns-clause-none
returns-clause-none c = told _ _ c.in_ok-point.point (returns-clause-some c)
