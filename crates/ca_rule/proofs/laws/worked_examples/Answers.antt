use Rattle.std.proofs.Common.{codes, refl, inl, inr, [], ◌∷◌}
use Rattle.ca_rule.proofs.laws.worked_examples.Goals as goal

pub returns-clause-life_is_spelled : goal.returns-clause-life_is_spelled
returns-clause-life_is_spelled c =
    record { birth_digits = refl; survival_digits = refl; form = inl (66, 83, 47 ∷ [], [], inl refl, inl refl, inr refl, refl, refl) }

pub returns-clause-life_is_spelled_survival_first : goal.returns-clause-life_is_spelled_survival_first
returns-clause-life_is_spelled_survival_first c =
    record { birth_digits = refl; survival_digits = refl; form = inr (inl (83, 66, 47 ∷ [], [], inl refl, inl refl, inr refl, refl, refl)) }

pub returns-clause-life_is_spelled_in_lower_case : goal.returns-clause-life_is_spelled_in_lower_case
returns-clause-life_is_spelled_in_lower_case c =
    record { birth_digits = refl; survival_digits = refl; form = inr (inl (115, 98, [], [], inr refl, inr refl, inl refl, refl, refl)) }

pub returns-clause-life_is_spelled_without_letters : goal.returns-clause-life_is_spelled_without_letters
returns-clause-life_is_spelled_without_letters c = record { birth_digits = refl; survival_digits = refl; form = inr (inr ([], refl, refl)) }

pub returns-clause-slash_alone_spells_no_counts : goal.returns-clause-slash_alone_spells_no_counts
returns-clause-slash_alone_spells_no_counts c = record { birth_digits = refl; survival_digits = refl; form = inr (inr ([], refl, refl)) }

pub returns-clause-four_neighbours_are_spelled : goal.returns-clause-four_neighbours_are_spelled
returns-clause-four_neighbours_are_spelled c =
    record { birth_digits = refl; survival_digits = refl; form = inl (98, 115, [], 118 ∷ [], inr refl, inr refl, inl refl, (118, inr refl, refl), refl) }

pub returns-clause-six_neighbours_are_spelled : goal.returns-clause-six_neighbours_are_spelled
returns-clause-six_neighbours_are_spelled c =
    record { birth_digits = refl; survival_digits = refl; form = inl (66, 83, 47 ∷ [], 104 ∷ [], inl refl, inl refl, inr refl, (104, inr refl, refl), refl) }

pub returns-clause-life_is_named : goal.returns-clause-life_is_named
returns-clause-life_is_named c = λ rule h b s. record {
  birth = codes "3";
  survival = codes "23";
  spells = rw h (returns-clause-life_is_spelled c);
  stays_empty = refl;
  birth_is = b;
  survival_is = s;
}
