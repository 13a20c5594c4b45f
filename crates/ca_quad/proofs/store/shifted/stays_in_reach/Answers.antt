use Rattle.std.proofs.Common.{inl, inr, arith}
use Rattle.std.proofs.lemmas.Int.{ints}
use Rattle.ca_quad.proofs.store.shifted.stays_in_reach.Goals as goal

pub returns-then-bounds-to-clause-no : goal.returns-then-bounds-to-clause-no
returns-then-bounds-to-clause-no c = λ _. inl (omega (arith, ints, c.if-bounds-to.true))

pub returns-then-bounds-to-2-clause-no : goal.returns-then-bounds-to-2-clause-no
returns-then-bounds-to-2-clause-no c = λ _. inr (inl (omega (arith, ints, c.if-bounds-to-2.true)))

pub returns-then-bounds-to-3-clause-no : goal.returns-then-bounds-to-3-clause-no
returns-then-bounds-to-3-clause-no c = λ _. inr (inr (inl (omega (arith, ints, c.if-bounds-to-3.true))))

pub returns-then-bounds-to-4-clause-no : goal.returns-then-bounds-to-4-clause-no
returns-then-bounds-to-4-clause-no c = λ _. inr (inr (inr (omega (arith, ints, c.if-bounds-to-4.true))))

pub returns-clause-yes : goal.returns-clause-yes
returns-clause-yes c = λ _. (omega (arith, ints, c.if-bounds-to.false), omega (arith, ints, c.if-bounds-to-2.false), omega (arith, ints, c.if-bounds-to-3.false), omega (arith, ints, c.if-bounds-to-4.false))
