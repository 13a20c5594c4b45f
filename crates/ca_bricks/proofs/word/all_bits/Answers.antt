use Rattle.std.proofs.Common.{◌∙◌, ap, sym, if◌then◌else◌}
use Rattle.ca_bricks.proofs.BrickBits.{ones_bit}
use Rattle.ca_bricks.proofs.word.all_bits.Goals as goal

pub returns-then-set : goal.returns-then-set
returns-then-set c = λ x h. ones_bit x h ∙ ap (λ b. if b then 1 else 0) (sym c.if-set.true)
