use Rattle.std.proofs.Common.{◌≡◌, ◌==◌, ◌&&◌, ◌-◌, not}
use Rattle.std.specs.List.{list_any, range_with_len}
use Rattle.ca_rule.specs.Prelude.{admits, admits_another}
use Rattle.ca_rule.proofs.table.ties.admits_another.Given as goal

-- the answer lies with the states that are left
abbrev pub invariant-states : goal.invariant-states
invariant-states l =
    admits_another l.states l.variables l.slot l.cell
    ≡ list_any (λ s. not (s == l.cell) && admits l.variables l.slot s) (range_with_len l.state (l.states - l.state))
