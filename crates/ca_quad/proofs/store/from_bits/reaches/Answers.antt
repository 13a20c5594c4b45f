use Rattle.std.proofs.Common.{refl}
use Rattle.ca_quad.proofs.BitWords.{HasNoCell-x, HasNoCell-y}
use Rattle.ca_quad.proofs.store.from_bits.reaches.Goals as goal

pub returns-then-is_apart_x : goal.returns-then-is_apart_x
returns-then-is_apart_x c = λ f. HasNoCell-x c.args.word c.args.at c.args.side (c.if-is_apart_x.ensures refl)

pub returns-then-is_apart_y : goal.returns-then-is_apart_y
returns-then-is_apart_y c = λ f. HasNoCell-y c.args.word c.args.at c.args.side (c.if-is_apart_y.ensures refl)
