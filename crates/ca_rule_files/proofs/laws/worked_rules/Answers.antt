use Rattle.std.proofs.Common.{[], codes, refl, inl, inr}
use Rattle.ca_rule_files.proofs.Neighbourhoods.{life-map}
use Rattle.ca_rule_files.proofs.laws.worked_rules.Goals as goal

pub returns-clause-text_is_spelled : goal.returns-clause-text_is_spelled
returns-clause-text_is_spelled c = record {
  birth_kinds = refl;
  survival_kinds = refl;
  form = inl (66, 83, codes "/", [], inl refl, inl refl, inr refl, refl, refl);
}

pub returns-clause-survival_may_come_first : goal.returns-clause-survival_may_come_first
returns-clause-survival_may_come_first c = record {
  birth_kinds = refl;
  survival_kinds = refl;
  form = inr (inl (115, 98, [], [], inr refl, inr refl, inl refl, refl, refl));
}

pub returns-clause-letters_may_be_left_out : goal.returns-clause-letters_may_be_left_out
returns-clause-letters_may_be_left_out c = record { birth_kinds = refl; survival_kinds = refl; form = inr (inr ([], refl, refl)) }

pub returns-clause-life_is_a_map : goal.returns-clause-life_is_a_map
returns-clause-life_is_a_map c = record { good = refl; form = refl }

pub returns-clause-life_as_a_map : goal.returns-clause-life_as_a_map
returns-clause-life_as_a_map c = life-map
