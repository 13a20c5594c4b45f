use Rattle.ca_rule.proofs.Fits.{fits}
use Rattle.ca_rule.proofs.bs_rule.BsRule.parse.Goals as goal

pub invariant_of-result-clause-birth_fits : goal.invariant_of-result-clause-birth_fits
invariant_of-result-clause-birth_fits c =
    let named = c.in_ok-birth.ensures.found in fits c.in_ok-birth.birth named.birth c.in_ok-birth.hood named.birth_is named.spells.birth_digits

pub invariant_of-result-clause-survival_fits : goal.invariant_of-result-clause-survival_fits
invariant_of-result-clause-survival_fits c =
    let named = c.in_ok-birth.ensures.found in fits c.in_ok-birth.survival named.survival c.in_ok-birth.hood named.survival_is named.spells.survival_digits
