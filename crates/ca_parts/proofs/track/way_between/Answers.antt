use Rattle.std.proofs.Common.{refl, sym, subst}
use Rattle.ca_parts.specs.inner.Apart.{IsShort}
use Rattle.ca_parts.proofs.Turns.{difference-bits}
use Rattle.ca_parts.proofs.track.way_between.Goals as goal

pub returns-clause-way : goal.returns-clause-way
returns-clause-way c = difference-bits c.way.result c.way-2.result _ _ c.way.ensures.value c.way-2.ensures.value c.way.ensures.long c.way-2.ensures.long

pub returns-clause-short : goal.returns-clause-short
returns-clause-short c = subst IsShort (sym (difference-bits c.way.result c.way-2.result _ _ c.way.ensures.value c.way-2.ensures.value c.way.ensures.long c.way-2.ensures.long)) (c.if-are_clear.ensures.near refl)
