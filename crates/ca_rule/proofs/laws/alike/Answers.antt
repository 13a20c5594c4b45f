use Rattle.std.proofs.Common.{subst}
use Rattle.ca_rule.specs.Prelude.{NamesBsRule, printed_bs_rule}
use Rattle.ca_rule.proofs.Meaning.{names-once}
use Rattle.ca_rule.proofs.laws.alike.Goals as goal

pub returns : goal.returns
returns c =
    let a = c.args.a.now in
    let b = c.args.b.now in
    (λ e. names-once _ a b (subst (λ text. NamesBsRule text a) e c.names_itself.ensures) c.names_itself-2.ensures, λ e i. printed_bs_rule (e.0 i) (e.1 i) (e.2 i))
