use Rattle.std.proofs.Common.{◌≡◌, ◌<◌, ◌&&◌, ℕ, length, nat_lt}
use Rattle.std.specs.List.{list_any}
use Rattle.ca_rule.specs.Prelude.{admits}
use Rattle.ca_rule.specs.inner.TableStates.{is_in}
use Rattle.ca_rule.proofs.table.state_set.states_among.Given as goal

-- of the states so far, the bits of those are set that a slot admits
abbrev pub invariant-states : goal.invariant-states
invariant-states l = (length l.words ≡ 4) × ((t : ℕ) → t < 256 → is_in l.words t ≡ (nat_lt t l.state && list_any (λ slot. admits l.variables slot t) l.slots))
