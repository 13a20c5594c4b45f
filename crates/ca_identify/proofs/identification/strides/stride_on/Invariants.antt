use Rattle.std.proofs.Common.{◌-◌, ◌≤◌, max}
use Rattle.ca_quad.specs.Prelude.{AreSquareBoxes, cell}
use Rattle.ca_run.specs.Prelude.{LeaperGrows}
use Rattle.ca_identify.specs.inner.Stages.{IsWalk, AreEarly}
use Rattle.ca_identify.proofs.identification.strides.stride_on.Given as goal

-- how far the walk is
abbrev pub invariant-strides : goal.invariant-strides
invariant-strides g l = record {
  goes_on : LeaperGrows _ l.fn.leaper l.leaper;
  walk : IsWalk (g.A.Automaton.next_of l.fn.leaper.rule) (cell l.fn.leaper.nodes l.fn.first.tree) l.leaper.nodes l.walk;
  early : AreEarly (g.A.Automaton.next_of l.fn.leaper.rule) (cell l.fn.leaper.nodes l.fn.first.tree) l.leaper.nodes l.early;
  boxes : AreSquareBoxes l.leaper.nodes l.boxes;
  begun : l.fn.walk.generations ≤ l.walk.generations;
  within : l.walk.generations ≤ l.fn.reach.limit;
  bounded : l.leaper.spent.used ≤ max l.fn.leaper.spent.used l.fn.reach.until;
}

abbrev pub decreases-strides : goal.decreases-strides
decreases-strides g l = l.reach.limit - l.walk.generations
