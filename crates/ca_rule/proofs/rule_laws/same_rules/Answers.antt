use Rattle.std.proofs.Common.{ap}
use Rattle.ca_rule.proofs.Rules.{same-next, same-next_generations, same-refl, same-sym, same-trans}
use Rattle.ca_rule.proofs.rule_laws.same_rules.Goals as goal

pub returns : goal.returns
returns c = record {
  next = λ r s nine same. ap (λ next. next nine) (same-next r s same);
  next_generations = λ r s nine same. ap (λ next. next nine) (same-next_generations r s same);
  reflexive = same-refl;
  symmetric = same-sym;
  transitive = same-trans;
}
