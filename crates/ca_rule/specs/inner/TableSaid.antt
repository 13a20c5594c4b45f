-- What the statements of a rule table have said, as it is kept.
use Rattle.std.specs.Prelude.{◌≡◌, ℕ, List, [], ◌∷◌, ◌++◌}
use Rattle.ca_rule.specs.declared.table.{slot.Slot.Slot, statements.Statements.Statements}
use Rattle.ca_rule.specs.TableText.{Settings, SaidStatements, states_said, number_of, states_among}
use Rattle.ca_rule.specs.inner.TableNames.{number_in}

-- what is kept once statements have said this
pub record KeepsStatements (said : SaidStatements) (kept : Statements) : Type 0 where
  pub named : (name : List ℕ) → number_in kept.names name ≡ number_of 0 said.variables name
  pub sets : states_said said ≡ kept.variables.items
  pub lines : said.transitions ≡ kept.transitions.items

-- one more variable is said
abbrev pub with_variable : Settings → SaidStatements → List ℕ → List Slot → SaidStatements
with_variable settings said name slots = record said { variables = said.variables ++ (name, states_among settings (states_said said) slots) ∷ [] }

-- one more transition is said
abbrev pub with_transition : SaidStatements → List Slot → Slot → SaidStatements
with_transition said inputs result = record said { transitions = said.transitions ++ record { inputs = inputs; result = result } ∷ [] }
