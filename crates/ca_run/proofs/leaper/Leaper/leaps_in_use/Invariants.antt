use Rattle.ca_run.specs.inner.InUse.{AreTrueLeaps}
use Rattle.ca_run.proofs.leaper.Leaper.leaps_in_use.Given as goal

abbrev pub invariant-places : goal.invariant-places
invariant-places g l = AreTrueLeaps (g.A.Automaton.next_of l.self.rule) l.self.nodes l.leaps.items
