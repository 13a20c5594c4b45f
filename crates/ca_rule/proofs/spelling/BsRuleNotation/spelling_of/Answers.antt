use Rattle.std.proofs.Common.{sym}
use Rattle.ca_rule.proofs.SpelledDigits.{IfNone-from, spells-no_lists, spells-found, spells-birth, spells-survival}
use Rattle.ca_rule.proofs.spelling.BsRuleNotation.spelling_of.Goals as goal
use Rattle.ca_rule.proofs.spelling.BsRuleNotation.spelling_of.Goals.{then-not-are_digits_up_to-via-then-not-are_digits_up_to, then-not-are_digits_up_to-via-else-not-are_digits_up_to+then-not-are_digits_up_to-2}

pub returns-in_err-birth-clause-none : goal.returns-in_err-birth-clause-none
returns-in_err-birth-clause-none c =
    IfNone-from _ (spells-no_lists _ _ _ c.split_suffix-hood.ensures.body c.split_suffix-hood.ensures.hood c.in_err-birth.ensures)

pub returns-then-not-are_digits_up_to-clause-none :
    goal.returns-then-not-are_digits_up_to-clause-none
returns-then-not-are_digits_up_to-clause-none c =
    elim c.then-not-are_digits_up_to.branch [
      | then-not-are_digits_up_to-via-then-not-are_digits_up_to w ↦ spells-birth _ _ _ c.split_suffix-hood.ensures.body c.split_suffix-hood.ensures.hood _ _ _ c.in_ok-birth.ensures c.most-most.ensures (sym w.if-not-are_digits_up_to.ensures)
      | then-not-are_digits_up_to-via-else-not-are_digits_up_to+then-not-are_digits_up_to-2 w ↦ spells-survival _ _ _ c.split_suffix-hood.ensures.body c.split_suffix-hood.ensures.hood _ _ _ c.in_ok-birth.ensures c.most-most.ensures (sym w.if-not-are_digits_up_to-2.ensures)
    ]

pub returns-clause-found : goal.returns-clause-found
returns-clause-found c =
    spells-found _ _ _ c.split_suffix-hood.ensures.body c.split_suffix-hood.ensures.hood _ _ _ c.in_ok-birth.ensures c.most-most.ensures (sym c.if-not-are_digits_up_to.ensures) (sym c.if-not-are_digits_up_to-2.ensures)
