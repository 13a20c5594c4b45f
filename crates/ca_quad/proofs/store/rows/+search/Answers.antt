use Rattle.std.proofs.Common.{◌+◌, inl, inr, arith}
use Rattle.ca_plane.proofs.Numbers.{below_or_not}
use Rattle.ca_quad.proofs.RowPlaces.{comes_earlier}
use Rattle.ca_quad.proofs.store.rows.+search.Goals as goal

pub returns-then-comes_before-clause-before : goal.returns-then-comes_before-clause-before
returns-then-comes_before-clause-before t c = λ i low high.
    let middle = c.place_between-middle.result in
    elim (below_or_not i (middle + 1)) [
      | inl h ↦ comes_earlier c.args.cells.now c.requires.sparse c.args.at i middle (omega arith) (omega (arith, c.requires.range, c.place_between-middle.ensures.most)) (c.comes_before.ensures.yes c.if-comes_before.true)
      | inr h ↦ c.search.ensures.before i h high
    ]

pub returns-clause-after : goal.returns-clause-after
returns-clause-after t c = λ i low high before.
    let middle = c.place_between-middle.result in
    elim (below_or_not i middle) [
      | inl h ↦ c.search-2.ensures.after i low h before
      | inr h ↦ c.comes_before.ensures.no c.if-comes_before.false (comes_earlier c.args.cells.now c.requires.sparse c.args.at middle i h (omega (arith, c.requires.range)) before)
    ]
