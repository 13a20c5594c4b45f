use Rattle.std.proofs.Common.{codes, refl, inl, inr, []}
use Rattle.ca_rule.specs.Prelude.{SpellsNoBsRule}
use Rattle.ca_rule.specs.declared.hood.Hood.TheVariants.{Moore}
use Rattle.ca_rule.proofs.SpelledDigits.{spells-no_lists, spells-birth}
use Rattle.ca_rule.proofs.GenerationsRead.{read-spelled, read-named, none-spelled as generations-none}
use Rattle.ca_rule.proofs.rule_laws.worked_names.Goals as goal

-- the name is no spelling of a B/S rule
spread : SpellsNoBsRule (codes "Spread")
spread = spells-no_lists (codes "Spread") (codes "Spread") Moore refl refl refl

pub returns-clause-table_is_named : goal.returns-clause-table_is_named
returns-clause-table_is_named c = (refl, spread, generations-none (codes "Spread") refl, refl)

pub returns-clause-other_names_are_passed_over : goal.returns-clause-other_names_are_passed_over
returns-clause-other_names_are_passed_over c = (refl, spread, generations-none (codes "Spread") refl, refl)

pub returns-clause-first_of_a_name_is_named : goal.returns-clause-first_of_a_name_is_named
returns-clause-first_of_a_name_is_named c = (refl, spread, generations-none (codes "Spread") refl, refl)

pub returns-clause-life_is_no_table : goal.returns-clause-life_is_no_table
returns-clause-life_is_no_table c = λ rule h b s. (
  refl,
  record {
    birth = codes "3";
    survival = codes "23";
    spells = rw h (record { birth_digits = refl; survival_digits = refl; form = inr (inr ([], refl, refl)) });
    stays_empty = refl;
    birth_is = b;
    survival_is = s;
  },
)

pub returns-clause-lower_case_is_another_name : goal.returns-clause-lower_case_is_another_name
returns-clause-lower_case_is_another_name c = ((refl, spells-no_lists (codes "spread") (codes "spread") Moore refl refl refl), (refl, generations-none (codes "spread") refl), refl)

pub returns-clause-empty_text_is_no_name : goal.returns-clause-empty_text_is_no_name
returns-clause-empty_text_is_no_name c = ((refl, spells-no_lists [] [] Moore refl refl refl), (refl, generations-none [] refl), refl)

pub returns-clause-waking_rule_is_no_table : goal.returns-clause-waking_rule_is_no_table
returns-clause-waking_rule_is_no_table c =
    inl (refl, (codes "03", codes "23", Moore, record { birth_digits = refl; survival_digits = refl; form = inl (98, 115, [], [], inr refl, inr refl, inl refl, refl, refl) }, refl))

pub returns-clause-brians_brain_is_no_table : goal.returns-clause-brians_brain_is_no_table
returns-clause-brians_brain_is_no_table c = λ rule survival birth states. (refl, read-named (codes "/2/3") ([], codes "2", 3) rule refl refl survival birth states)

pub returns-clause-waking_generations_are_no_table : goal.returns-clause-waking_generations_are_no_table
returns-clause-waking_generations_are_no_table c = inr (refl, (codes "0", codes "2", 3, read-spelled (codes "2/0/3") (codes "2", codes "0", 3) refl, refl))

pub returns-clause-too_many_states_may_be_a_name : goal.returns-clause-too_many_states_may_be_a_name
returns-clause-too_many_states_may_be_a_name c =
    (refl, spells-birth (codes "2/3/257") (codes "2/3/257") Moore refl refl (codes "3/257") (codes "2") 8 refl refl refl, generations-none (codes "2/3/257") refl, refl)
