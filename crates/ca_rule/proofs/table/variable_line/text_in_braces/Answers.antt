use Rattle.std.proofs.Common.{ℕ, List, MatchOption, sym, subst}
use Rattle.ca_rule.specs.inner.TableFields.{IsBraced}
use Rattle.ca_rule.proofs.VariableLines.{braced-suffix, not-opened}
use Rattle.ca_rule.proofs.table.variable_line.text_in_braces.Goals as goal

pub returns-in_err-after_brace : goal.returns-in_err-after_brace
returns-in_err-after_brace c =
    subst (λ o. MatchOption o ((inside : List ℕ) → IsBraced c.args.bytes.now inside → ⊥) (λ r. IsBraced c.args.bytes.now r.now)) (sym c.from_residual.ensures)
    (λ inside. not-opened c.args.bytes.now inside c.in_err-after_brace.ensures)

pub returns : goal.returns
returns c = braced-suffix c.args.bytes.now c.in_ok-after_brace.field-0.now c.before_brace.result c.in_ok-after_brace.ensures c.before_brace.ensures
