-- How the statements of a rule table are read, one after another.
use Rattle.std.specs.Prelude.{◌≡◌, ℕ, List, ◌++◌, true, ◌⊎◌}
use Rattle.ca_rule.specs.declared.table.{fault.TableFault.TableFault, statement_fault.StatementFault.StatementFault, statements.Statements.Statements}
use Rattle.ca_rule.specs.declared.table.fault.TableFault.TheVariants as table_fault
use Rattle.ca_rule.specs.declared.table.statement_fault.StatementFault.TheVariants.{Syntax, State, Name, Unbound, Memory}
use Rattle.ca_rule.specs.{TableLines.NumberedLine, TableText.Settings, TableText.SaidStatements, TableText.no_statements, TableText.SaysVariable}
use Rattle.ca_rule.specs.{TableText.SaysTransition, TableText.LinesSay, TableText.is_end_of_section, TableFaults.IsMisspelled, TableFaults.HasBadState}
use Rattle.ca_rule.specs.{TableFaults.HasUnknownName, TableFaults.HasUnbound, TableFaults.SaysMore, inner.TableSaid.KeepsStatements}

-- the fault of the text, where its n-th line has this fault
abbrev pub fault_at : ℕ → StatementFault → TableFault
fault_at n Syntax = table_fault.Syntax n
fault_at n State = table_fault.States n
fault_at n Name = table_fault.Variable n
fault_at n Unbound = table_fault.Unbound n
fault_at n Memory = table_fault.Memory

-- the line's fault; where memory ran out it has none
abbrev pub IsFaultOfLine : Settings → SaidStatements → NumberedLine → StatementFault → Type 0
IsFaultOfLine settings said line Syntax = IsMisspelled settings said line
IsFaultOfLine settings said line State = HasBadState settings said line
IsFaultOfLine settings said line Name = HasUnknownName settings said line
IsFaultOfLine settings said line Unbound = HasUnbound settings said line
IsFaultOfLine settings said line Memory = SaysMore settings said line

-- the line says this, after what was said, and it is kept
abbrev pub IsKeptBehind : Settings → SaidStatements → NumberedLine → Statements → Type 0
IsKeptBehind settings said line kept = (after : SaidStatements) × (SaysVariable settings said line after ⊎ SaysTransition settings said line after) × KeepsStatements after kept

-- the first of the lines are statements, which say what is kept, and these are left
pub record IsBehindSaid (settings : Settings) (all left : List NumberedLine) (kept : Statements) : Type 0 where
  pub good : List NumberedLine
  pub said : SaidStatements
  pub whole : all ≡ good ++ left
  pub say : LinesSay settings no_statements good said
  pub is_kept : KeepsStatements said kept

-- they are all statements of the section
pub record AreAllSaid (settings : Settings) (all : List NumberedLine) (kept : Statements) : Type 0 where
  pub later : List NumberedLine
  pub tail_after : IsBehindSaid settings all later kept
  pub ends : is_end_of_section later ≡ true
