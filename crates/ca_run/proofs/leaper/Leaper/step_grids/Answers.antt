use Rattle.std.proofs.Common.{IfSome, subst, arith}
use Rattle.ca_quad.specs.Prelude.{IsSoundStore}
use Rattle.ca_quad.proofs.Cells.{of_stays}
use Rattle.ca_run.specs.inner.Dense.{HasReached}
use Rattle.ca_run.proofs.DenseRuns.{reached_now, reached_before, reached_stays, grid_more, grids_done}
use Rattle.ca_run.proofs.LeaperGrowth.{goes_on_again}
use Rattle.ca_run.proofs.leaper.Leaper.step_grids.Goals as goal

pub returns-in_default-clause-reached : goal.returns-in_default-clause-reached
returns-in_default-clause-reached g c =
    let inv = c.grids.invariant in
    let sound = subst (λ l. IsSoundStore l.nodes) c.self.view_is c.self.invariant.squares in
    let on = goes_on_again _ c.args.self.now c.grids.self c.step_grid.new.self inv.goes_on c.in_ok-stretch.ensures.at_cost.goes_on in
    let first = of_stays _ _ sound inv.goes_on.grows c.args.first.now.root c.args.first.now.level c.requires.first in
    let kept = reached_stays _ _ _ c.args.first.now c.args.n c.grids.reached inv.goes_on.grows.sound c.in_ok-stretch.ensures.at_cost.goes_on.grows first inv.reached in
    reached_before _ _ _ _ c.args.first.now c.args.n c.grids.reached sound on.grows c.requires.first kept

pub returns-then-work-least-clause-reached : goal.returns-then-work-least-clause-reached
returns-then-work-least-clause-reached g c =
    let inv = c.grids.invariant in
    let sound = subst (λ l. IsSoundStore l.nodes) c.self.view_is c.self.invariant.squares in
    let made = subst (λ found. IfSome found (λ stretch. HasReached (g.A.Automaton.next_of c.grids.self.rule) c.grids.self.nodes c.args.first.now c.args.n c.step_grid.new.self.nodes stretch.reached)) c.in-Some.is c.in_ok-stretch.ensures.reached in
    subst (λ r. HasReached (g.A.Automaton.next_of r) c.args.self.now.nodes c.args.first.now c.args.n c.step_grid.new.self.nodes c.in-Some.stretch.reached) inv.goes_on.rule
    (reached_before _ _ _ _ c.args.first.now c.args.n _ sound inv.goes_on.grows c.requires.first made)

pub returns-then-work-least-clause-goes_on : goal.returns-then-work-least-clause-goes_on
returns-then-work-least-clause-goes_on g c = goes_on_again _ c.args.self.now c.grids.self c.step_grid.new.self c.grids.invariant.goes_on c.in_ok-stretch.ensures.at_cost.goes_on

pub grids-preserved : goal.grids-preserved
grids-preserved g c =
    let inv = c.grids.invariant in
    let sound = subst (λ l. IsSoundStore l.nodes) c.self.view_is c.self.invariant.squares in
    let made = subst (λ found. IfSome found (λ stretch. HasReached (g.A.Automaton.next_of c.grids.self.rule) c.grids.self.nodes c.args.first.now c.args.n c.step_grid.new.self.nodes stretch.reached)) c.in-Some.is c.in_ok-stretch.ensures.reached in
    let first = of_stays _ _ sound inv.goes_on.grows c.args.first.now.root c.args.first.now.level c.requires.first in
    record {
      reached = subst (λ r. HasReached (g.A.Automaton.next_of r) c.step_grid.new.self.nodes c.args.first.now c.args.n c.step_grid.new.self.nodes c.in-Some.stretch.reached) inv.goes_on.rule
          (reached_now _ _ _ c.args.first.now c.args.n _ inv.goes_on.grows.sound c.in_ok-stretch.ensures.at_cost.goes_on.grows first made);
      goes_on = goes_on_again _ c.args.self.now c.grids.self c.step_grid.new.self inv.goes_on c.in_ok-stretch.ensures.at_cost.goes_on;
      costs = grid_more c.args.first.now c.grids.counter inv.costs c.in_ok-stretch.ensures.at_cost.costs;
    }

pub returns-clause-reached : goal.returns-clause-reached
returns-clause-reached g c =
    let s0 = c.args.self.now.nodes in
    let inv = c.grids.invariant in
    let sound = subst (λ l. IsSoundStore l.nodes) c.self.view_is c.self.invariant.squares in
    reached_before (g.A.Automaton.next_of c.args.self.now.rule) s0 c.grids.self.nodes c.grids.self.nodes c.args.first.now c.args.n c.grids.reached sound inv.goes_on.grows c.requires.first inv.reached

pub returns-clause-costs : goal.returns-clause-costs
returns-clause-costs g c =
    grids_done c.args.first.now c.args.n c.grids.counter c.requires.least c.requires.many (omega (arith, c.grids.auto.counter-end)) c.grids.invariant.costs
