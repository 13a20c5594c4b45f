use Rattle.std.proofs.Common.{sym, subst}
use Rattle.ca_rule.specs.Prelude.{IsTransitionLine}
use Rattle.ca_rule.proofs.table.statement.read_statement.Goals as goal

pub returns-in_default-transition_fields : goal.returns-in_default-transition_fields
returns-in_default-transition_fields c = λ n settings said same.
    (c.in_default.ensures n, λ fields t. c.in_default-transition_fields.ensures n fields (subst (λ s. IsTransitionLine (n, c.args.content.now) s fields) (sym same) t))
