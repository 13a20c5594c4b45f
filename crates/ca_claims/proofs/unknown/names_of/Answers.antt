use Rattle.ca_claims.proofs.UnknownRules.{asked_next}
use Rattle.ca_claims.proofs.unknown.names_of.Goals as goal

pub files-preserved : goal.files-preserved
files-preserved c = asked_next c.args.tables.now c.args.needed.now c.args.found.now c.files.index c.files.names c.add_unknown.new.names c.files.invariant c.in_ok-add_unknown.ensures
