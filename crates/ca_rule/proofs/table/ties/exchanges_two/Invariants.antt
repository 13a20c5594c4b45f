use Rattle.std.proofs.Common.{◌≡◌, ◌≤◌, ◌+◌, ◌-◌}
use Rattle.std.specs.List.{count_by, range_with_len}
use Rattle.ca_rule.specs.Prelude.{is_exchanged}
use Rattle.ca_rule.proofs.table.ties.exchanges_two.Given as goal

-- the count so far, and the states that are left, which are one more than are counted or fewer
abbrev pub invariant-states : goal.invariant-states
invariant-states l =
    (l.count + count_by (is_exchanged l.states l.variables l.slots l.number) (range_with_len l.state (l.states - l.state))
    ≡ count_by (is_exchanged l.states l.variables l.slots l.number) (range_with_len 0 l.states)) × (l.count ≤ l.state)
