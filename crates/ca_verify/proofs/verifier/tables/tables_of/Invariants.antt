use Rattle.std.proofs.Common.{take}
use Rattle.std.specs.List.{AllZip}
use Rattle.ca_verify.specs.inner.Found.{IsTableFound}
use Rattle.ca_verify.proofs.verifier.tables.tables_of.Given as goal

-- the texts at the places so far are those of the tables
abbrev pub invariant-places : goal.invariant-places
invariant-places l = AllZip (IsTableFound l.found) (take l.place-index l.places) l.tables.items
