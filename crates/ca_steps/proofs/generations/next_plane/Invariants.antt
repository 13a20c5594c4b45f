use Rattle.ca_plane.specs.Prelude.{IsSparse}
use Rattle.ca_steps.specs.inner.Window.{ShowsWindow}
use Rattle.ca_steps.specs.inner.Written.{IsWritten}
use Rattle.ca_steps.proofs.WrittenGenerations.{moves_left}
use Rattle.ca_steps.proofs.generations.next_plane.Given as goal

-- the window shows the cells round its place, and up to there the next generation is written
abbrev pub invariant-places : goal.invariant-places
invariant-places g l = record {
  shows : ShowsWindow l.cells l.window;
  written : IsWritten (g.A.Automaton.next_of l.rule) l.cells l.next l.window.place.x l.window.place.y;
  sparse : IsSparse l.next;
}

-- the moves that the window can still take
abbrev pub decreases-places : goal.decreases-places
decreases-places g l = moves_left l.window
