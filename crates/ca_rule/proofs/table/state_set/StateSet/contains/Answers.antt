use Rattle.std.proofs.Common.{◌≡◌, ◌==◌, ◌*◌, ◌<◌, ◌/◌, ◌%◌, ◌^◌, length, sym, subst, arith}
use Rattle.std.specs.Prelude.{slice_index}
use Rattle.std.specs.List.{list_any}
use Rattle.ca_rule.proofs.Members.{list_any-states_in}
use Rattle.ca_rule.proofs.table.state_set.StateSet.contains.Goals as goal

pub returns : goal.returns
returns c =
    let long : length c.self.inside.words ≡ 4 = c.self.invariant in
    let fits : c.args.state < 64 * length c.self.inside.words = rw long (omega arith) in
    let found = list_any-states_in c.self.inside.words c.args.state fits in
    subst (λ l. (slice_index c.self.inside.words c.from.result / 2 ^ (c.args.state % 64) % 2 == 1) ≡ list_any (λ s. s == c.args.state) l) c.self.view_is
    (rw c.from.ensures (sym found))
