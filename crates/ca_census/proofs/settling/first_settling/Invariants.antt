use Rattle.std.proofs.Common.{◌-◌, ◌≤◌}
use Rattle.ca_plane.specs.Prelude.{Picture}
use Rattle.ca_run.specs.Prelude.{LeaperGrows}
use Rattle.ca_pattern.specs.Prelude.{ShowsTree}
use Rattle.ca_census.specs.Files.{FitsFile}
use Rattle.ca_census.specs.inner.Searches.{IsBetween}
use Rattle.ca_census.proofs.settling.first_settling.Given as goal

-- the plane is settled after the one number of generations, and not before the other one, which is no greater
abbrev pub invariant-halves : goal.invariant-halves
invariant-halves g l = record {
  goes_on : LeaperGrows _ l.fn.leaper l.leaper;
  within : l.between.settled.generations ≤ l.fn.reach.limit;
  fits : FitsFile (g.A.Automaton.state_count l.fn.rule) l.between.settled.plane;
  order : l.between.unsettled_before ≤ l.between.settled.generations;
  between : (cells : Picture) → ShowsTree l.fn.leaper.nodes l.fn.pattern cells → IsBetween (g.A.Automaton.next_of l.fn.rule) cells l.fn.reach l.between;
}

abbrev pub decreases-halves : goal.decreases-halves
decreases-halves g l = l.between.settled.generations - l.between.unsettled_before
