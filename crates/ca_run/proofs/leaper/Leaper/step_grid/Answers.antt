use Rattle.std.proofs.Common.{◌+◌, ◌^◌, IfSome, sym, subst, ◌∙◌, arith}
use Rattle.std.proofs.Math.Path.{fun_ext}
use Rattle.ca_plane.specs.Prelude.{cells_after}
use Rattle.ca_quad.specs.Prelude.{cell}
use Rattle.ca_bricks.specs.Prelude.{LiesNearOrigin, LiesWithin}
use Rattle.ca_run.specs.inner.Frames.{IsNewGrid}
use Rattle.ca_run.proofs.Costs.{at_cost_more, at_both_costs}
use Rattle.ca_run.proofs.DenseRuns.{at_grid_cost, growth_low}
use Rattle.ca_run.proofs.Grids.{within_place, aligned_place}
use Rattle.ca_run.proofs.Levels.{trimmed_low}
use Rattle.ca_budget.proofs.Powers.{power_more}
use Rattle.ca_run.proofs.leaper.Leaper.step_grid.Goals as goal

pub live-requires : goal.live-requires
live-requires g c =
    let before = cell c.args.self.now.nodes c.args.reached.now.tree in
    g.met.R.Grid.SquareGrid.whole _ _ before (subst (λ found. IfSome found (λ grid. g.R.Grid.SquareGrid.shows_plane grid c.min-left.result before)) c.in-Some.is c.in_ok-grid.ensures.shows)

pub reach-reach-requires-clause-place : goal.reach-reach-requires-clause-place
reach-reach-requires-clause-place g c =
    let fresh = subst (λ found. IfSome found (λ grid. IsNewGrid (g.R.Grid.SquareGrid.live_grid grid))) c.in-Some.is c.in_ok-grid.ensures.fresh in
    subst LiesNearOrigin (sym c.live.ensures.grid) fresh.near

pub overflow_add-first : goal.overflow_add-first
overflow_add-first g c =
    let low = growth_low (g.R.Grid.SquareGrid.units c.in-Some.grid) g.R.GridRule.MOST_GROWTH (g.met.R.GridRule.is_cheap c.in-Some.grid) in
    omega (arith, low, c.MOST_GROWTH.ensures, c.requires.most)

pub later_grid-requires-clause-shows : goal.later_grid-requires-clause-shows
later_grid-requires-clause-shows g c =
    let before = cell c.args.self.now.nodes c.args.reached.now.tree in
    let shows = subst (λ found. IfSome found (λ grid. g.R.Grid.SquareGrid.shows_plane grid c.min-left.result before)) c.in-Some.is c.in_ok-grid.ensures.shows in
    subst (g.R.Grid.SquareGrid.shows_plane c.in-Some.grid c.min-left.result) (fun_ext (λ x. fun_ext (λ y. c.requires.reached.cells x y))) shows

pub later_grid-requires-clause-suits : goal.later_grid-requires-clause-suits
later_grid-requires-clause-suits g c = subst (λ found. IfSome found (g.R.GridRule.suits c.args.rule.now)) c.in-Some.is c.in_ok-grid.ensures.suits

pub later_grid-requires-clause-fresh : goal.later_grid-requires-clause-fresh
later_grid-requires-clause-fresh g c = subst (λ found. IfSome found (λ grid. IsNewGrid (g.R.Grid.SquareGrid.live_grid grid))) c.in-Some.is c.in_ok-grid.ensures.fresh

pub tree_of-requires-clause-grid : goal.tree_of-requires-clause-grid
tree_of-requires-clause-grid g c = g.met.R.Grid.SquareGrid.whole _ _ _ c.in_ok-later.ensures.shows

pub tree_of-requires-clause-within : goal.tree_of-requires-clause-within
tree_of-requires-clause-within g c = within_place _ _ _ c.in_ok-later.ensures.place.place (subst (LiesWithin (2 ^ c.reach-reach.result)) c.live.ensures.grid c.reach-reach.ensures.within)

pub tree_of-requires-clause-aligned : goal.tree_of-requires-clause-aligned
tree_of-requires-clause-aligned g c =
    let fresh = subst (λ found. IfSome found (λ grid. IsNewGrid (g.R.Grid.SquareGrid.live_grid grid))) c.in-Some.is c.in_ok-grid.ensures.fresh in
    aligned_place _ _ c.in_ok-later.ensures.place.place fresh.aligned

pub live-live-requires : goal.live-live-requires
live-live-requires g c = g.met.R.Grid.SquareGrid.whole _ _ _ c.in_ok-later.ensures.shows

pub returns-clause-reached : goal.returns-clause-reached
returns-clause-reached g c =
    let later = cells_after (g.A.Automaton.next_of c.args.self.now.rule) (cell c.args.self.now.nodes c.args.first.now) (c.args.reached.now.generations + c.min-left.result) in
    record {
      is_tree = c.in_ok-tree-2.ensures.tree;
      low = trimmed_low c.trim.new.self.nodes c.in_ok-tree-2.tree c.args.first.now.level (omega (arith, c.requires.least)) c.in_ok-tree-2.ensures.trimmed;
      most = omega (arith, c.requires.reached.most, c.min-left.ensures);
      cells = λ x y. c.in_ok-tree-2.ensures.cells x y ∙ c.in_ok-tree.ensures.cells 0 later c.in_ok-later.ensures.shows x y;
    }

pub returns-in_err-later-clause-at_cost : goal.returns-in_err-later-clause-at_cost
returns-in_err-later-clause-at_cost g c =
    let low = power_more 10 (c.args.first.now.level + 4) (omega (arith, c.requires.least)) in
    at_cost_more {b = c.later_grid.new.self} c.in_err-later.ensures.at_cost (omega (arith, low)) (omega arith)

pub returns-in_err-tree-clause-at_cost : goal.returns-in_err-tree-clause-at_cost
returns-in_err-tree-clause-at_cost g c =
    let later = c.in_ok-later.later in
    at_cost_more (at_grid_cost (g.R.Grid.SquareGrid.units later) g.R.GridRule.MOST_GROWTH c.args.first.now.level c.reach-reach.result (g.met.R.GridRule.is_cheap later) (omega (arith, c.if-reach-first.false, c.MOST_GROWTH.ensures)) c.requires.least c.in_ok-later.ensures.at_cost c.in_err-tree.ensures.at_cost) (omega arith) (omega arith)

pub returns-in_err-tree-2-clause-at_cost : goal.returns-in_err-tree-2-clause-at_cost
returns-in_err-tree-2-clause-at_cost g c =
    let later = c.in_ok-later.later in
    let grid = at_grid_cost (g.R.Grid.SquareGrid.units later) g.R.GridRule.MOST_GROWTH c.args.first.now.level c.reach-reach.result (g.met.R.GridRule.is_cheap later) (omega (arith, c.if-reach-first.false, c.MOST_GROWTH.ensures)) c.requires.least c.in_ok-later.ensures.at_cost c.in_ok-tree.ensures.at_cost in
    at_cost_more (at_both_costs grid c.in_err-tree-2.ensures.at_cost) (omega arith) (omega arith)

pub returns-clause-at_cost : goal.returns-clause-at_cost
returns-clause-at_cost g c =
    let later = c.in_ok-later.later in
    let grid = at_grid_cost (g.R.Grid.SquareGrid.units later) g.R.GridRule.MOST_GROWTH c.args.first.now.level c.reach-reach.result (g.met.R.GridRule.is_cheap later) (omega (arith, c.if-reach-first.false, c.MOST_GROWTH.ensures)) c.requires.least c.in_ok-later.ensures.at_cost c.in_ok-tree.ensures.at_cost in
    at_cost_more (at_both_costs grid c.in_ok-tree-2.ensures.at_cost) (omega arith) (omega arith)
