use Rattle.ca_identify_lines.specs.inner.Tried.{IsTried}
use Rattle.ca_identify_lines.proofs.taken_names.TakenNames.free_place.Given as goal

-- each name so far is taken
abbrev pub invariant-places : goal.invariant-places
invariant-places l = IsTried l.self l.name l.place
