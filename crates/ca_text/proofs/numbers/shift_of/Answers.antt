use Rattle.ca_text.proofs.numbers.shift_of.Goals as goal

pub returns-in_err-dx : goal.returns-in_err-dx
returns-in_err-dx c = rw c.from_residual.ensures (λ x y right down. c.in_err-dx.ensures x right)

pub returns-in_err-dy : goal.returns-in_err-dy
returns-in_err-dy c = rw c.from_residual-in_err-dy.ensures (λ x y right down. c.in_err-dy.ensures y down)
