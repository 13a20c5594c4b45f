use Rattle.std.proofs.Common.{◌+◌, ◌≤◌, refl, sym, subst, ◌∙◌, arith}
use Rattle.std.specs.Prelude.{pos}
use Rattle.ca_quad.specs.Prelude.{shifted_cells, IsShiftRefused, cell}
use Rattle.ca_plane.specs.Prelude.{cells_after}
use Rattle.ca_budget.specs.Prelude.{Spent}
use Rattle.ca_pattern.specs.Prelude.{IsWithinPlane, IsLaterTree}
use Rattle.ca_evolution.specs.Prelude.{step_work}
use Rattle.ca_pattern.proofs.Corners.{fits_near}
use Rattle.ca_evolution.proofs.Spending.{takes_one, takes_before}
use Rattle.ca_evolution.proofs.Steps.{some_run}
use Rattle.ca_pattern.proofs.Times.{moved_nowhere}
use Rattle.ca_evolution.proofs.later.later_tree_within.Goals as goal

pub returns-then-generations-eq0-clause-later : goal.returns-then-generations-eq0-clause-later
returns-then-generations-eq0-clause-later g c =
    let is = c.requires in
    let next = g.A.Automaton.next_of c.args.leaper.now.rule in
    let cells = cell c.args.leaper.now.nodes c.args.tree in
    subst (λ n. IsLaterTree next cells n c.args.leaper.now.nodes c.args.tree) (sym c.if-generations-eq0.true)
    (record {
      near = record { is_tree = is.is_tree; low = let low = is.low in omega (arith, low); near = subst (λ n. IsWithinPlane (cells_after next cells n)) c.if-generations-eq0.true is.near };
      low = is.low;
      trimmed = is.trimmed;
      shows = λ x y. refl;
    })

pub returns-in_err-later-clause-takes : goal.returns-in_err-later-clause-takes
returns-in_err-later-clause-takes g c =
    some_run _ _ c.args.tree.level c.args.generations c.if-generations-eq0.false (takes_one c.args.leaper.now c.advance_within.new.self c.args.tree.level c.args.generations c.advance_within.ensures.costs)

pub unreachable-requires : goal.unreachable-requires
unreachable-requires g c =
    let later = cell c.advance_within.new.self.nodes c.in-Some.later in
    let reached = rw c.in-Some.is at c.in_ok-later.ensures.advanced in
    let leaves = subst (IsShiftRefused (shifted_cells later (pos 0) (pos 0))) c.in-Err-Range.field-0-is c.in-Err-Range.ensures.fault in
    leaves.2
    (sym (moved_nowhere later (pos 0) (pos 0) leaves.0 leaves.1 refl refl) ∙ reached.cells leaves.0 leaves.1 ∙ c.requires.near leaves.0 leaves.1 leaves.3)

pub returns-in-Ok-clause-later : goal.returns-in-Ok-clause-later
returns-in-Ok-clause-later g c =
    let later = cell c.advance_within.new.self.nodes c.in-Some.later in
    let reached = rw c.in-Some.is at c.in_ok-later.ensures.advanced in
    let trimmed = c.in-Ok.ensures in
    record {
      near = record { is_tree = trimmed.tree; low = omega (arith, trimmed.level); near = fits_near _ trimmed.fits };
      low = trimmed.level;
      trimmed = trimmed.trimmed;
      shows = λ x y. trimmed.cells x y ∙ sym (moved_nowhere later (pos 0) (pos 0) x y refl refl) ∙ reached.cells x y;
    }

pub returns-in_default-clause-takes : goal.returns-in_default-clause-takes
returns-in_default-clause-takes g c =
    some_run _ _ c.args.tree.level c.args.generations c.if-generations-eq0.false (takes_one c.args.leaper.now c.advance_within.new.self c.args.tree.level c.args.generations c.in_ok-later.ensures.costs)

pub returns-in_default-clause-one : goal.returns-in_default-clause-one
returns-in_default-clause-one g c = λ single. (c.in_ok-later.ensures.one single).most

pub returns-in-Ok-clause-takes : goal.returns-in-Ok-clause-takes
returns-in-Ok-clause-takes g c =
    some_run _ _ c.args.tree.level c.args.generations c.if-generations-eq0.false
    (takes_before c.args.leaper.now.spent.used c.advance_within.new.self.spent c.shifted.new.self.spent 1 c.args.tree.level c.args.generations c.in-Ok.ensures.spent
    (takes_one c.args.leaper.now c.advance_within.new.self c.args.tree.level c.args.generations c.in_ok-later.ensures.costs))

pub returns-in-Err-Memory-clause-takes : goal.returns-in-Err-Memory-clause-takes
returns-in-Err-Memory-clause-takes g c =
    some_run _ _ c.args.tree.level c.args.generations c.if-generations-eq0.false
    (takes_before c.args.leaper.now.spent.used c.advance_within.new.self.spent c.shifted.new.self.spent 1 c.args.tree.level c.args.generations c.in-Err-Memory.ensures.spent
    (takes_one c.args.leaper.now c.advance_within.new.self c.args.tree.level c.args.generations c.in_ok-later.ensures.costs))

pub returns-in_err-later-clause-one : goal.returns-in_err-later-clause-one
returns-in_err-later-clause-one g c = λ single. (c.advance_within.ensures.one single).most

pub returns-in-Ok-clause-one : goal.returns-in-Ok-clause-one
returns-in-Ok-clause-one g c = λ single. subst (λ (s : Spent). s.used ≤ c.args.leaper.now.spent.used + step_work c.args.tree.level) (sym c.in-Ok.ensures.spent) (c.in_ok-later.ensures.one single).most

pub returns-in-Err-Memory-clause-one : goal.returns-in-Err-Memory-clause-one
returns-in-Err-Memory-clause-one g c =
    λ single. subst (λ (s : Spent). s.used ≤ c.args.leaper.now.spent.used + step_work c.args.tree.level) (sym c.in-Err-Memory.ensures.spent) (c.in_ok-later.ensures.one single).most
