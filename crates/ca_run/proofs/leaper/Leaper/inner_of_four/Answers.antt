use Rattle.std.proofs.Common.{◌≡◌, suc, ◌-◌, IfOk, sym, subst, arith}
use Rattle.std.specs.Prelude.{◌+ℤ◌}
use Rattle.std.proofs.lemmas.Bool.Decides.{nat_tests}
use Rattle.ca_quad.specs.Prelude.{IsOf}
use Rattle.ca_run.specs.inner.Shown.{ShowsAt, FourShow}
use Rattle.ca_bricks.specs.Prelude.{side}
use Rattle.ca_run.proofs.Bases.{inner_cells_at}
use Rattle.ca_bricks.proofs.Overlaps.{four_inner}
use Rattle.ca_run.proofs.leaper.Leaper.inner_of_four.Goals as goal

pub returns-then-part_level-eq0-clause-shows : goal.returns-then-part_level-eq0-clause-shows
returns-then-part_level-eq0-clause-shows g c = λ p a b four.
    let none : 0 ≡ c.args.part_level = grind (arith, nat_tests) in
    let old = c.args.self.now.nodes in
    let new = c.leaf.new.self.nodes in
    subst (λ k. IfOk c.leaf.result (λ result_id. ShowsAt new result_id (suc k) p (a +ℤ side k) (b +ℤ side k))) none
    (inner_cells_at old new c.leaf.result c.args.nw c.args.ne c.args.sw c.args.se c.cells16.result p a b c.cells16.ensures
    (subst (λ k. FourShow old (suc k) c.args.nw c.args.ne c.args.sw c.args.se p a b) (sym none) four) c.leaf.ensures.shows)

pub returns-clause-shows : goal.returns-clause-shows
returns-clause-shows g c = λ p a b four.
    let up : suc (c.args.part_level - 1) ≡ c.args.part_level = grind (arith, nat_tests) in
    let nodes = c.args.self.now.nodes in
    let parts = subst (λ k. FourShow nodes (suc k) c.args.nw c.args.ne c.args.sw c.args.se p a b) (sym up) four in
    subst (λ k. IfOk c.join.result (λ result_id. ShowsAt c.join.new.self.nodes result_id (suc k) p (a +ℤ side k) (b +ℤ side k))) up
    (c.join.ensures.shows p _ _
    (four_inner (suc (c.args.part_level - 1))
    (c.quarters-nw.ensures.shows p _ _ parts.at_nw) (c.quarters-ne.ensures.shows p _ _ parts.at_ne)
    (c.quarters-sw.ensures.shows p _ _ parts.at_sw) (c.quarters-se.ensures.shows p _ _ parts.at_se)))

pub returns-clause-square : goal.returns-clause-square
returns-clause-square g c =
    let up : suc (c.args.part_level - 1) ≡ c.args.part_level = grind (arith, nat_tests) in
    subst (λ k. IfOk c.join.result (λ result_id. IsOf c.join.new.self.nodes result_id (suc k))) up c.join.ensures.square
