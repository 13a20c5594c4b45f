use Rattle.std.proofs.Common.{inr, arith}
use Rattle.std.proofs.lemmas.Int.{ints}
use Rattle.ca_quad.proofs.store.from_bits.is_apart_x.Goals as goal

pub returns-then-at-side : goal.returns-then-at-side
returns-then-at-side c = λ _. inr (omega (arith, ints, c.if-at-side.true, c.first_x-first.ensures))
