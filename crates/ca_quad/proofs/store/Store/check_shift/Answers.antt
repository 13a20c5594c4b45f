use Rattle.std.proofs.Common.{◌≤◌, ◌^◌, MatchOption, refl, subst, arith}
use Rattle.std.proofs.lemmas.Bool.Decides.{nat_tests}
use Rattle.std.proofs.lemmas.Int.{ints}
use Rattle.ca_quad.specs.Prelude.{IsSoundStore, cell, IsDead, IsLeastWideBox, shifted_cells}
use Rattle.ca_quad.specs.inner.Shifted.{shifted_box}
use Rattle.ca_quad.proofs.Reach.{box_leaves, box_fits}
use Rattle.ca_quad.proofs.Shifts.{box_shifted, short_fits}
use Rattle.ca_quad.proofs.store.Store.check_shift.Goals as goal

pub returns-then-not-stays_in_reach-clause-fault : goal.returns-then-not-stays_in_reach-clause-fault
returns-then-not-stays_in_reach-clause-fault c =
    let cells = cell c.args.self.now c.args.tree in
    let least = subst (λ found. MatchOption found (IsDead cells) (IsLeastWideBox cells)) c.in-Some.is c.in_ok-bounds.ensures in
    box_leaves (shifted_cells cells c.args.to.x c.args.to.y) (shifted_box c.in-Some.bounds c.args.to) (box_shifted cells c.in-Some.bounds c.args.to least) (c.if-not-stays_in_reach.ensures.no refl)

pub returns-clause-fits : goal.returns-clause-fits
returns-clause-fits c =
    let cells = cell c.args.self.now c.args.tree in
    let least = subst (λ found. MatchOption found (IsDead cells) (IsLeastWideBox cells)) c.in-Some.is c.in_ok-bounds.ensures in
    box_fits (shifted_cells cells c.args.to.x c.args.to.y) (shifted_box c.in-Some.bounds c.args.to) (box_shifted cells c.in-Some.bounds c.args.to least) (c.if-not-stays_in_reach.ensures.yes refl)

pub returns-then-farthest-le-MARGIN-clause-fits : goal.returns-then-farthest-le-MARGIN-clause-fits
returns-then-farthest-le-MARGIN-clause-fits c =
    let low : c.args.tree.level ≤ 62 = grind (arith, nat_tests) in
    let near : c.farthest.result ≤ 2 ^ 61 = grind (arith, nat_tests) in
    short_fits c.args.self.now (subst IsSoundStore c.self.view_is c.self.invariant) c.args.tree c.requires.tree c.args.to low
    (omega (arith, ints, near, c.farthest.ensures.x), omega (arith, ints, near, c.farthest.ensures.x)) (omega (arith, ints, near, c.farthest.ensures.y), omega (arith, ints, near, c.farthest.ensures.y))
