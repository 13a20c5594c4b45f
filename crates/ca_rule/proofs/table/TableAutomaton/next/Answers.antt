use Rattle.std.proofs.Common.{◌≡◌, ◌∙◌, subst}
use Rattle.ca_rule.specs.Prelude.{table_next}
use Rattle.ca_rule.specs.inner.TableSearch.{placements_of}
use Rattle.ca_rule.proofs.SymmetryPlaces.{stored-next}
use Rattle.ca_rule.proofs.table.TableAutomaton.next.Goals as goal

pub returns : goal.returns
returns c =
    let same = stored-next c.self.inside.name.items c.self.inside.states c.self.inside.neighbourhood c.self.inside.symmetry c.self.inside.indexed.variables c.self.inside.indexed.transitions
    c.args.nine.now (placements_of c.of-orders.result) c.of-orders.ensures.placements in
    subst (λ t. c.next.result ≡ table_next t c.args.nine.now) c.self.view_is (c.next.ensures ∙ same)
