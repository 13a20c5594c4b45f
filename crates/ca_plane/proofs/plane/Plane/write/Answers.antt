use Rattle.std.proofs.Common.{arith}
use Rattle.ca_plane.specs.inner.Places.{IsAt}
use Rattle.ca_plane.proofs.Places.{Sets-set, IsSparse-set, Sets-remove, IsSparse-remove}
use Rattle.ca_plane.proofs.plane.Plane.write.Goals as goal

pub invariant_of-self : goal.invariant_of-self
invariant_of-self c =
    let there : IsAt c.self.inside.cells.items c.args.at c.args.place = rw c.self.view_is c.requires.there in
    rw c.remove.ensures.items (IsSparse-remove c.self.inside.cells.items c.args.at c.args.place c.self.invariant there)

pub returns-then-state-eq0-clause-sets : goal.returns-then-state-eq0-clause-sets
returns-then-state-eq0-clause-sets c =
    let there : IsAt c.self.inside.cells.items c.args.at c.args.place = rw c.self.view_is c.requires.there in
    rw (c.if-state-eq0.true, c.remove.ensures.items, ← c.self.view_is) (Sets-remove c.self.inside.cells.items c.args.at c.args.place c.self.invariant there)

pub returns-then-state-eq0-clause-sparse : goal.returns-then-state-eq0-clause-sparse
returns-then-state-eq0-clause-sparse c = invariant_of-self c

pub invariant_of-self-2 : goal.invariant_of-self-2
invariant_of-self-2 c =
    let there : IsAt c.self.inside.cells.items c.args.at c.args.place = rw c.self.view_is c.requires.there in
    IsSparse-set c.self.inside.cells.items c.args.at c.args.place c.args.state c.self.invariant there c.requires.within c.if-state-eq0.false (omega (arith, c.ranges.state.fits))

pub returns-clause-sets : goal.returns-clause-sets
returns-clause-sets c =
    let there : IsAt c.self.inside.cells.items c.args.at c.args.place = rw c.self.view_is c.requires.there in
    rw (← c.self.view_is) (Sets-set c.self.inside.cells.items c.args.at c.args.place c.args.state c.self.invariant there)

pub returns-clause-sparse : goal.returns-clause-sparse
returns-clause-sparse c = invariant_of-self-2 c
