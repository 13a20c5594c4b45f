use Rattle.std.proofs.Common.{◌≡◌, refl, subst}
use Rattle.std.specs.Prelude.{replicate}
use Rattle.ca_run.specs.Prelude.{LeaperView}
use Rattle.ca_run.proofs.Costs.{at_cost_as}
use Rattle.ca_run.proofs.DenseRuns.{at_stepping_cost}
use Rattle.ca_run.proofs.leaper.Leaper.later_grid.Goals as goal

pub grid_after-later-requires-clause-quiet : goal.grid_after-later-requires-clause-quiet
grid_after-later-requires-clause-quiet g c = subst (λ l. g.A.Automaton.next_of l.rule (replicate 9 0) ≡ 0) c.self.view_is (g.met.A.Automaton.quiet c.self.inside.rule c.self.invariant.rule)

pub returns-clause-at_cost : goal.returns-clause-at_cost
returns-clause-at_cost g c =
    let view : LeaperView g.row.A.Denot = record { rule = c.self.inside.rule; nodes = c.self.inside.store; memo = c.self.inside.capacity; spent = c.self.inside.work } in
    at_cost_as c.self.view_is refl
    (at_stepping_cost view c.grid_after-later.new.work c.self.invariant.squares c.args.generations _ c.requires.margin c.requires.fresh.few c.grid_after-later.ensures.charged)
