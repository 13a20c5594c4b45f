use Rattle.std.proofs.Common.{sym, subst, ◌∙◌}
use Rattle.ca_plane.specs.Prelude.{Picture, cell, HasPopulation, IsLive, IsLeastBox}
use Rattle.ca_census.proofs.entry.entry_of.Goals as goal

pub returns-clause-entry : goal.returns-clause-entry
returns-clause-entry c = λ next round.
    let here = c.plane-plane.ensures in
    record {
      identity = c.kind_of-kind.ensures.identity next round;
      plane = c.in_ok-copy.ensures.same ∙ here;
      cells = subst (λ (p : Picture). HasPopulation (cell p) c.len.result) here c.len.ensures.population;
      bounds = subst (λ (p : Picture). IsLeastBox p c.bounds_of.result) here (c.bounds_of.ensures (subst IsLive (sym here) round.live));
      code = c.in_ok-code.ensures next round.phases;
    }
