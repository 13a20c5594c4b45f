use Rattle.std.proofs.Common.{subst}
use Rattle.ca_rule.specs.Prelude.{NamesGenerationsRule, printed_generations_rule}
use Rattle.ca_rule.proofs.GenerationsRead.{names-once}
use Rattle.ca_rule.proofs.rule_laws.generations_alike.Goals as goal

pub returns : goal.returns
returns c =
    let a = c.args.a.now in
    let b = c.args.b.now in (
      λ e. names-once _ a b (subst (λ text. NamesGenerationsRule text a) e c.generations_names_itself.ensures) c.generations_names_itself-2.ensures,
      λ e i. printed_generations_rule (e.0 i) (e.1 i) (e.2 i),
    )
