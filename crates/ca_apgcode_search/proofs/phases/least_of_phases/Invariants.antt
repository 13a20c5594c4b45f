use Rattle.std.proofs.Common.{ℕ, ◌+◌, ◌-◌, Vec, Global}
use Rattle.std.specs.Prelude.{option_map}
use Rattle.ca_plane.specs.Prelude.{cells_after}
use Rattle.ca_quad.specs.Prelude.{AreSquareBoxes, cell}
use Rattle.ca_run.specs.Prelude.{LeaperGrows}
use Rattle.ca_apgcode.specs.Prelude.{IsLeastOfPhases}
use Rattle.ca_evolution.specs.Prelude.{TakesSteps}
use Rattle.ca_pattern.specs.Prelude.{IsLaterTree}
use Rattle.ca_apgcode_search.proofs.phases.least_of_phases.Given as goal

-- the tree that is reached, the least text of the phases up to it, and what it took
abbrev pub invariant-phases : goal.invariant-phases
invariant-phases g l = record {
  goes_on : LeaperGrows _ l.fn.leaper l.leaper;
  now : IsLaterTree (g.A.Automaton.next_of l.fn.leaper.rule) (cell l.fn.leaper.nodes l.fn.pattern) l.n l.leaper.nodes l.now;
  least : IsLeastOfPhases (cells_after (g.A.Automaton.next_of l.fn.leaper.rule) (cell l.fn.leaper.nodes l.fn.pattern)) (l.n + 1) (option_map (λ (text : Vec ℕ Global). text.items) l.least);
  boxes : AreSquareBoxes l.leaper.nodes l.boxes;
  takes : TakesSteps l.fn.leaper.spent.used l.leaper.spent.used (cells_after (g.A.Automaton.next_of l.fn.leaper.rule) (cell l.fn.leaper.nodes l.fn.pattern)) (l.fn.count - 1) l.n;
}
