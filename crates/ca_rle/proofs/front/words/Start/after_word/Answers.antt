use Rattle.ca_rle.proofs.StartWords.{leads_corner, leads_generation, leads_nowhere, says_nothing, bad_place}
use Rattle.std.proofs.Common.{sym, subst}
use Rattle.ca_rle.specs.Prelude.{WordSays, Generation}
use Rattle.ca_rle.proofs.front.words.Start.after_word.Goals as goal

pub returns-in_default-place-clause-fault : goal.returns-in_default-place-clause-fault
returns-in_default-place-clause-fault c = bad_place _ _ c.in-Some.ensures c.in_default-place.ensures

pub returns-in-Some-clause-found : goal.returns-in-Some-clause-found
returns-in-Some-clause-found c = leads_corner _ _ _ _ c.in-Some.ensures c.in-Some-place.ensures

pub returns-in-Some-strip-clause-found : goal.returns-in-Some-strip-clause-found
returns-in-Some-strip-clause-found c = leads_generation _ _ _ (subst (λ l. WordSays l (Generation c.in_ok-generation.generation)) (sym c.in-Some-strip.ensures) c.in_ok-generation.ensures.found)

pub returns-clause-found : goal.returns-clause-found
returns-clause-found c = leads_nowhere _ _ (says_nothing _ c.in_default.ensures c.in_default-strip.ensures)
