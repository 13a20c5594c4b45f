use Rattle.std.proofs.Common.{◌≡◌, ℕ, ◌<◌, length, slice_index}
use Rattle.ca_bricks.specs.inner.Neighbourhoods.{neighbourhood}
use Rattle.ca_bricks.proofs.next_states.next_states.Given as goal

-- the next states of the neighbourhoods so far
abbrev pub invariant-numbers : goal.invariant-numbers
invariant-numbers g l = record {
  made : (n : ℕ) → n < l.number → slice_index l.states.items n ≡ g.A.Automaton.next_of l.rule (neighbourhood n);
  size : length l.states.items ≡ l.number;
}
