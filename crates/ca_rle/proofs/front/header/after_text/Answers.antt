use Rattle.std.proofs.Common.{Some, sym, ap, ◌∙◌}
use Rattle.ca_rle.proofs.HeaderLines.{text_missing, text_left}
use Rattle.ca_rle.proofs.front.header.after_text.Goals as goal

pub returns-in_err-rest : goal.returns-in_err-rest
returns-in_err-rest c = rw c.from_residual.ensures (text_missing c.args.text.now c.args.bytes.now (λ r e. c.in_err-rest.ensures r (c.split_blanks.ensures.rest ∙ e)))

pub returns : goal.returns
returns c = text_left c.args.text.now c.args.bytes.now c.in_ok-rest.rest.now (sym c.split_blanks.ensures.rest ∙ c.in_ok-rest.ensures) ∙ ap Some (sym c.split_blanks-2.ensures.rest)
