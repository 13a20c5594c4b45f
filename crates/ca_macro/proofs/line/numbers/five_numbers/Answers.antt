use Rattle.ca_macro.proofs.Numbers.{five_kept}
use Rattle.ca_macro.proofs.line.numbers.five_numbers.Goals as goal

pub returns : goal.returns
returns c = five_kept _ _ c.set_numbers.auto.numbers (c.set_numbers.ensures.kept c.if-not-set_numbers.false)
