use Rattle.ca_claims.specs.inner.Unknown.{AreAskedBefore}
use Rattle.ca_claims.proofs.unknown.names_of.Given as goal

-- the names that the files so far ask for
abbrev pub invariant-files : goal.invariant-files
invariant-files l = AreAskedBefore l.tables l.needed l.found l.index l.names
