use Rattle.std.proofs.Common.{◌∙◌}
use Rattle.std.specs.Int.{bit_at}
use Rattle.ca_bricks.proofs.BrickBits.{words_tell}
use Rattle.ca_bricks.proofs.word.WordMasks.next.Goals as goal

pub returns : goal.returns
returns c = λ counting x are h. c.select_bits.ensures x ∙ words_tell c.args.self.now counting (bit_at c.args.alive x) c.args.n x are c.requires h
