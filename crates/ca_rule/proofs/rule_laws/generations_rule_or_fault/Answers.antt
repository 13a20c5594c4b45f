use Rattle.ca_rule.proofs.GenerationsRead.{names-faultless, other-notation}
use Rattle.ca_rule.specs.Prelude.{SpellsGenerationsRule}
use Rattle.ca_rule.proofs.Meaning.{one-fault}
use Rattle.ca_rule.proofs.rule_laws.generations_rule_or_fault.Goals as goal

pub returns-clause-rule_alone : goal.returns-clause-rule_alone
returns-clause-rule_alone c = names-faultless

pub returns-clause-one_notation : goal.returns-clause-one_notation
returns-clause-one_notation c = other-notation

pub returns-clause-one_fault : goal.returns-clause-one_fault
returns-clause-one_fault c = λ text. one-fault (λ b s. SpellsGenerationsRule text s b) text
