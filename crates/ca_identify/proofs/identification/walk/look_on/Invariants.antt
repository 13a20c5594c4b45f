use Rattle.std.proofs.Common.{◌-◌, ◌≤◌, max}
use Rattle.ca_plane.specs.Prelude.{cells_after}
use Rattle.ca_quad.specs.Prelude.{cell}
use Rattle.ca_run.specs.Prelude.{LeaperGrows}
use Rattle.ca_identify.specs.inner.Stages.{IsWalk}
use Rattle.ca_evolution.specs.Prelude.{TakesSteps}
use Rattle.ca_identify.proofs.identification.walk.look_on.Given as goal

-- the walk is at the last generation, none up to which shows the pattern or nothing, and what it took to look at them
abbrev pub invariant-generations : goal.invariant-generations
invariant-generations g l = record {
  goes_on : LeaperGrows _ l.fn.leaper l.leaper;
  walk : IsWalk (g.A.Automaton.next_of l.fn.leaper.rule) (cell l.fn.leaper.nodes l.fn.first.tree) l.leaper.nodes l.walk;
  begun : l.fn.walk.generations ≤ l.walk.generations;
  within : l.walk.generations ≤ l.fn.end;
  bounded : l.leaper.spent.used ≤ max l.fn.leaper.spent.used l.until;
  takes : TakesSteps l.fn.leaper.spent.used l.leaper.spent.used (cells_after (g.A.Automaton.next_of l.fn.leaper.rule) (cell l.fn.leaper.nodes l.fn.first.tree)) l.fn.end (l.walk.generations - l.fn.walk.generations);
}

abbrev pub decreases-generations : goal.decreases-generations
decreases-generations g l = l.end - l.walk.generations
