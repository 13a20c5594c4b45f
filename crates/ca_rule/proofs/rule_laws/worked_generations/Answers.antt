use Rattle.std.proofs.Common.{◌++◌, [], codes, refl, ap, ◌∙◌, arith}
use Rattle.std.proofs.lemmas.Fmt.{decimal_digit, decimal_step}
use Rattle.ca_rule.proofs.GenerationsRead.{read-named}
use Rattle.ca_rule.proofs.rule_laws.worked_generations.Goals as goal

pub returns-clause-brians_brain_is_named : goal.returns-clause-brians_brain_is_named
returns-clause-brians_brain_is_named c = λ rule. read-named (codes "/2/3") ([], codes "2", 3) rule refl refl

pub returns-clause-brians_brain_is_printed : goal.returns-clause-brians_brain_is_printed
returns-clause-brians_brain_is_printed c = ap (λ ds. codes "/2/" ++ ds) (decimal_digit 3 (omega arith))

pub returns-clause-star_wars_is_printed : goal.returns-clause-star_wars_is_printed
returns-clause-star_wars_is_printed c = ap (λ ds. codes "345/2/" ++ ds) (decimal_digit 4 (omega arith))

pub returns-clause-most_states_are_printed : goal.returns-clause-most_states_are_printed
returns-clause-most_states_are_printed c =
    ap (λ ds. codes "23/3/" ++ ds) (decimal_step 256 (omega arith) (omega arith) ∙ ap (λ ds. ds ++ codes "6") (decimal_step 25 (omega arith) (omega arith) ∙ ap (λ ds. ds ++ codes "5") (decimal_digit 2 (omega arith))))
