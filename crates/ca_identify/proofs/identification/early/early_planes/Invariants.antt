use Rattle.std.proofs.Common.{◌-◌, ◌≤◌, max, length}
use Rattle.ca_quad.specs.Prelude.{AreSquareBoxes, cell}
use Rattle.ca_run.specs.Prelude.{LeaperGrows}
use Rattle.ca_pattern.specs.Prelude.{IsLaterTree}
use Rattle.ca_identify.specs.inner.Stages.{AreEarly}
use Rattle.ca_identify.proofs.identification.early.early_planes.Given as goal

-- the planes before the tree that is reached
abbrev pub invariant-generations : goal.invariant-generations
invariant-generations g l = record {
  goes_on : LeaperGrows _ l.fn.leaper l.leaper;
  now : IsLaterTree (g.A.Automaton.next_of l.fn.leaper.rule) (cell l.fn.leaper.nodes l.fn.first.tree) (length l.planes.items) l.leaper.nodes l.now;
  early : AreEarly (g.A.Automaton.next_of l.fn.leaper.rule) (cell l.fn.leaper.nodes l.fn.first.tree) l.leaper.nodes l.planes.items;
  boxes : AreSquareBoxes l.leaper.nodes l.boxes;
  bounded : l.leaper.spent.used ≤ max l.fn.leaper.spent.used l.until;
}

abbrev pub decreases-generations : goal.decreases-generations
decreases-generations g l = l.generations - length l.planes.items
