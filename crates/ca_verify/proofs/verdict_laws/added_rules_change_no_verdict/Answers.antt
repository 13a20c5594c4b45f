use Rattle.ca_verify.proofs.AddedTables.{verdict_stays}
use Rattle.ca_verify.proofs.verdict_laws.added_rules_change_no_verdict.Goals as goal

pub returns : goal.returns
returns c = λ files rules more claim verdict all other holds. verdict_stays files rules more all claim verdict other holds
