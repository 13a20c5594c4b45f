-- The names of this crate's definitions that other crates and proofs cite, passed on from one place. It declares nothing.
pub use Rattle.ca_rule.specs.Counts.{is_count, has_digit, counts_of, are_digits_up_to, most_of, FitsHood}
pub use Rattle.ca_rule.specs.Digits.{are_digits, state_count}
pub use Rattle.ca_rule.specs.Next.{bs_next, neighbour_count, bs_next_state}
pub use Rattle.ca_rule.specs.OneMeaning.{HasAtMostOne}
pub use Rattle.ca_rule.specs.Generations.{generations_next, generations_next_state, live_count, SpellsGenerationsRule, NamesGenerationsRule, IsGenerationsRuleFault, printed_generations_rule, SpellsNoGenerationsRule, ageing_by_counts}
pub use Rattle.ca_rule.specs.Masks.{mask_of, neighbourhood_of, counting_by_hood}
pub use Rattle.ca_rule.specs.Rule.{RuleValue, next_of, IsRuleFault, IsSameRule, Bs, Gen, Tab, rule_value, states_of, NamesRule, printed_form, first_named}
pub use Rattle.ca_rule.specs.Spelling.{NamesBsRule, IsLetter, IsOptionalSlash, IsLettered, IsUnlettered, IsSuffix, SpellsBsRule, has_colon, IsBsRuleFault, SpellsNoBsRule, digits_of, NamesCounts, SpellsLists, IsSpellingFault, suffix_of, printed_bs_rule}
pub use Rattle.ca_rule.specs.TextLists.{is_rule_letter, stands_in_list, without_slash, tail_after_letter, tail_after_slash, both_lists, swapped_lists, lists_around, lists_around_slash, lists_of}
pub use Rattle.ca_rule.specs.TableOrders.{orders, every_order, picks, ring, ring_size, forward_order, places}
pub use Rattle.ca_rule.specs.TableNext.{TableRule, table_next, States, Transition, admits, SlotCell, is_variable, take_one_cell, fits, next_by, variable_states, IsSoundTable, result_state, cells_in_order, outcome, taken_cell}
pub use Rattle.ca_rule.specs.TableTies.{admits_another, may_take_over, is_exchanged, exchanges_two, have_common, may_change, may_fit_both, two_may_fit, orders_may_fit, may_tie, has_ties, taken_under, GiveOneState, GivesOneState}
pub use Rattle.ca_rule.specs.TableLines.{rule_named, begins_with, tail_after, begins_variable, comma_parts, fields_between, is_field, is_name, IsVariableLine, IsTransitionLine, content_of, says_something, lines_said, NumberedLine, setting, setting_words, is_setting, begins_section, is_name_byte, fields_of, last_line, rule_name, begins_table, value_of, states_set, neighbourhood_set, symmetry_set}
pub use Rattle.ca_rule.specs.TableText.{IsTable, table_from, Settings, SaidStatements, StandsFor, SaysVariable, SaysTransition, LinesSay, states_among, number_of, is_bound, field_count, HasTable, sets_again, are_settings, SettingsMean, no_statements, is_end_of_section, states_said}
pub use Rattle.ca_rule.specs.TableFaults.{IsTableTextFault, IsMisspelled, HasFields, HasBadState, HasUnknownName, HasUnbound, number_at, follows_settings, HasNoRuleLine, HasNoTable, SetsAgain, HasSettings, LackStates, LackNeighbourhood, LackSymmetry, HasStatement, DoesWake, HaveEnd, HasBadField}
