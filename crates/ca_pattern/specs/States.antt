-- Whether the states of cells are below the number of a rule's states.
use Rattle.std.specs.Prelude.{ℕ, ◌≤◌, ◌<◌, ℤ}
use Rattle.ca_rule.specs.Prelude.{RuleValue, states_of}

-- some cell has a state that isn't below the number of the rule's states
abbrev pub HasLargeState : RuleValue → (ℤ → ℤ → ℕ) → Type 0
HasLargeState rule cells = (x : ℤ) × (y : ℤ) × (states_of rule ≤ cells x y)

-- no cell has
abbrev pub HasSmallStates : RuleValue → (ℤ → ℤ → ℕ) → Type 0
HasSmallStates rule cells = (x y : ℤ) → cells x y < states_of rule
