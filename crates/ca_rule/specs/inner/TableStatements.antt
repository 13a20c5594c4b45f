-- How the statements of a rule table are read.
use Rattle.std.specs.Prelude.{ℕ}
use Rattle.ca_rule.specs.declared.table.statement.Statement.{Statement}
use Rattle.ca_rule.specs.declared.table.statement.Statement.TheVariants.{Variable, Transition}
use Rattle.ca_rule.specs.TableLines.{NumberedLine, fields_between, IsVariableLine, IsTransitionLine}
use Rattle.ca_rule.specs.inner.TableFields.{fields_left}

-- the line is spelled so, where transitions have this many slots
abbrev pub IsStatement : NumberedLine → ℕ → Statement → Type 0
IsStatement line slots (Variable v) = IsVariableLine line v.name.now (fields_between v.inside.now)
IsStatement line slots (Transition fields) = IsTransitionLine line slots (fields_left fields)
