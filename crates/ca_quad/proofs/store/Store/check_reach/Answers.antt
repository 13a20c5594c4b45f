use Rattle.std.proofs.Common.{◌≡◌, ◌≤◌, ◌∙◌, MatchOption, refl, subst, arith}
use Rattle.std.proofs.lemmas.Bool.Decides.{nat_tests}
use Rattle.ca_quad.specs.Prelude.{cell, IsDead, IsLeastWideBox}
use Rattle.ca_quad.proofs.Reach.{box_leaves, box_fits, low_fits}
use Rattle.ca_quad.proofs.store.Store.check_reach.Goals as goal

pub returns-then-not-are_in_reach-clause-fault : goal.returns-then-not-are_in_reach-clause-fault
returns-then-not-are_in_reach-clause-fault c =
    let cells = cell c.args.self.now c.args.tree in
    box_leaves cells c.in-Some.bounds (subst (λ found. MatchOption found (IsDead cells) (IsLeastWideBox cells)) c.in-Some.is c.in_ok-bounds.ensures) (c.if-not-are_in_reach.ensures.no refl)

pub returns-clause-fits : goal.returns-clause-fits
returns-clause-fits c =
    let cells = cell c.args.self.now c.args.tree in
    box_fits cells c.in-Some.bounds (subst (λ found. MatchOption found (IsDead cells) (IsLeastWideBox cells)) c.in-Some.is c.in_ok-bounds.ensures) (c.if-not-are_in_reach.ensures.yes refl)

pub returns-then-level-le-INSIDE-clause-fits : goal.returns-then-level-le-INSIDE-clause-fits
returns-then-level-le-INSIDE-clause-fits c =
    let level : c.level.result ≡ c.args.tree.level = c.level.ensures.level ∙ c.requires.is_level in
    let low : c.level.result ≤ 63 = grind (arith, nat_tests) in
    low_fits c.args.self.now c.args.tree (omega (arith, level, c.level.ensures.least)) (omega (arith, level, low))
