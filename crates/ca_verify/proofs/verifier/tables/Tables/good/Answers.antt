use Rattle.ca_verify.proofs.GoodTables.{unread_tables}
use Rattle.ca_verify.proofs.verifier.tables.Tables.good.Goals as goal

pub returns-in_default : goal.returns-in_default
returns-in_default c = λ files paths rules read. unread_tables files paths rules c.args.self.now c.in_default.not-Read read
