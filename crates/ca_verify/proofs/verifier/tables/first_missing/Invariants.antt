use Rattle.std.proofs.Common.{take}
use Rattle.std.specs.List.{AllByRecursion}
use Rattle.ca_verify.specs.inner.Found.{IsFound}
use Rattle.ca_verify.proofs.verifier.tables.first_missing.Given as goal

-- at the places so far files are found
abbrev pub invariant-places : goal.invariant-places
invariant-places l = AllByRecursion (IsFound l.found) (take l.place-index l.places)
