use Rattle.std.proofs.Common.{arith}
use Rattle.ca_apgcode.proofs.Lengths.{shorter_first}
use Rattle.ca_apgcode.proofs.SomeTexts.{some_text}
use Rattle.ca_apgcode.proofs.rounds.lesser_with.Goals as goal

pub returns : goal.returns
returns c = λ cells box. record { text = c.in_ok-text.text.items; is_text = (c.args.grid.now, box, c.in_ok-text.ensures); least = c.lesser_text.ensures }

pub returns-then-len-representation_length : goal.returns-then-len-representation_length
returns-then-len-representation_length c = λ cells box.
    let some = some_text c.args.grid.now box.is_grid in
    record { text = some.0; is_text = (c.args.grid.now, box, some.1); least = shorter_first some.0 c.args.least.items (omega (arith, c.len.ensures, c.representation_length.ensures some.0 some.1, c.if-len-representation_length.true)) }
