use Rattle.std.proofs.Common.{◌≢◌, ℕ, suc, arith}
use Rattle.std.proofs.lemmas.Bool.Decides.{nat_tests}
use Rattle.ca_quad.specs.Prelude.{IsOf}
use Rattle.ca_quad.specs.inner.Difference.{AreUnequal}
use Rattle.ca_quad.proofs.Quarters.{unequal_four}
use Rattle.ca_quad.proofs.store.Store.unequal_quarters.Goals as goal
use Rattle.ca_quad.proofs.store.Store.unequal_quarters.Goals.{After-half_side-half}

unequal : (c : After-half_side-half) (k : ℕ) → IsOf c.args.self.now c.args.a (suc k)
    → (c.in-Parts.nw ≢ c.in-Parts-square.other_nw → AreUnequal c.args.self.now k c.args.a c.args.b c.in-Parts.nw c.in-Parts-square.other_nw 0 0)
    × (c.in-Parts.ne ≢ c.in-Parts-square.other_ne → AreUnequal c.args.self.now k c.args.a c.args.b c.in-Parts.ne c.in-Parts-square.other_ne c.half_side-half.result 0)
    × (c.in-Parts.sw ≢ c.in-Parts-square.other_sw → AreUnequal c.args.self.now k c.args.a c.args.b c.in-Parts.sw c.in-Parts-square.other_sw 0 c.half_side-half.result)
    × (c.in-Parts.se ≢ c.in-Parts-square.other_se → AreUnequal c.args.self.now k c.args.a c.args.b c.in-Parts.se c.in-Parts-square.other_se c.half_side-half.result c.half_side-half.result)
unequal c k h =
    let a = c.in-Parts in
    let b = c.in-Parts-square in
    unequal_four c.args.self.now c.args.a c.args.b k h c.requires.level c.requires.b a.level a.nw a.ne a.sw a.se a.ensures.shows a.ensures.whole
    b.field-0 b.other_nw b.other_ne b.other_sw b.other_se b.ensures.shows b.ensures.whole c.half_side-half.result c.half_side-half.ensures.half

pub returns-then-ne-clause-tells : goal.returns-then-ne-clause-tells
returns-then-ne-clause-tells c = λ k h. (unequal (goal.at.returns-then-ne-clause-tells c).After-half_side-half k h).0 (λ e. grind (arith, nat_tests))

pub returns-then-ne-2-clause-tells : goal.returns-then-ne-2-clause-tells
returns-then-ne-2-clause-tells c = λ k h. (unequal (goal.at.returns-then-ne-2-clause-tells c).After-half_side-half k h).1 (λ e. grind (arith, nat_tests))

pub returns-then-ne-3-clause-tells : goal.returns-then-ne-3-clause-tells
returns-then-ne-3-clause-tells c = λ k h. (unequal (goal.at.returns-then-ne-3-clause-tells c).After-half_side-half k h).2 (λ e. grind (arith, nat_tests))

pub returns-then-ne-4-clause-tells : goal.returns-then-ne-4-clause-tells
returns-then-ne-4-clause-tells c = λ k h. (unequal (goal.at.returns-then-ne-4-clause-tells c).After-half_side-half k h).3 (λ e. grind (arith, nat_tests))
