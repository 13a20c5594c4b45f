use Rattle.std.proofs.Common.{arith}
use Rattle.ca_plane.specs.inner.Places.{IsGap}
use Rattle.ca_plane.proofs.Places.{Sets-insert, IsSparse-insert, Sets-gap}
use Rattle.ca_plane.proofs.plane.Plane.put.Goals as goal

pub returns-then-state-eq0-clause-ok : goal.returns-then-state-eq0-clause-ok
returns-then-state-eq0-clause-ok c = rw c.if-state-eq0.true (Sets-gap c.args.self.now c.args.at c.args.place c.requires.gap)

pub invariant_of-self-2 : goal.invariant_of-self-2
invariant_of-self-2 c =
    let gap : IsGap c.self.inside.cells.items c.args.at c.args.place = rw c.self.view_is c.requires.gap in
    rw c.in_ok-insert.ensures.items (IsSparse-insert c.self.inside.cells.items c.args.at c.args.place c.args.state c.self.invariant gap c.requires.within c.if-state-eq0.false (omega (arith, c.ranges.state.fits)))

pub returns-clause-ok : goal.returns-clause-ok
returns-clause-ok c =
    rw (c.in_ok-insert.ensures.items, c.self.view_is) (Sets-insert c.args.self.now c.args.at c.args.place c.args.state c.requires.gap)

pub returns-clause-sparse : goal.returns-clause-sparse
returns-clause-sparse c = λ _. invariant_of-self-2 c
