use Rattle.std.proofs.Common.{◌≡◌, ◌&&◌, ◌-◌}
use Rattle.std.specs.List.{list_any, range_with_len}
use Rattle.ca_rule.specs.Prelude.{admits, have_common}
use Rattle.ca_rule.proofs.table.ties.have_common.Given as goal

-- the answer lies with the states that are left
abbrev pub invariant-states : goal.invariant-states
invariant-states l =
    have_common l.states l.variables l.slot l.other
    ≡ list_any (λ x. admits l.variables l.slot x && admits l.variables l.other x) (range_with_len l.state (l.states - l.state))
