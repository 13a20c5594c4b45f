use Rattle.std.proofs.Common.{arith}
use Rattle.ca_apgcode.proofs.EightTexts.{least_where_long}
use Rattle.ca_apgcode.proofs.phases.least_with_turns.Goals as goal

pub returns-then-not-has_short_text : goal.returns-then-not-has_short_text
returns-then-not-has_short_text c = λ cells box. least_where_long cells c.args.least.items (λ text is. omega (arith, c.len.ensures, c.has_short_text.ensures cells box c.if-not-has_short_text.true text is))
