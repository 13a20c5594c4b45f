use Rattle.ca_quad.proofs.RowPlaces.{HaveRowAt-push}
use Rattle.ca_quad.proofs.store.rows.push_row.Goals as goal

pub returns-clause-holds : goal.returns-clause-holds
returns-clause-holds c = HaveRowAt-push c.args.rows.now.items c.push.new.self.items c.args.row c.in_ok-push.ensures.items
