use Rattle.std.proofs.Common.{◌≡◌, ◌≢◌, sym, ap, subst, ◌∙◌}
use Rattle.std.specs.Prelude.{ℤ}
use Rattle.ca_quad.specs.Prelude.{cell}
use Rattle.ca_quad.proofs.Trims.{trees_stay}
use Rattle.ca_run.proofs.Trees.{some_as}
use Rattle.ca_pattern.specs.Prelude.{IsNearTree}
use Rattle.ca_pattern.proofs.LeaptTrees.{near_stays}
use Rattle.ca_verify.proofs.LeaptTrees.{difference_told}
use Rattle.ca_verify.proofs.decide.find_difference.Goals as goal

pub difference_of-requires-clause-end : goal.difference_of-requires-clause-end
difference_of-requires-clause-end g c =
    subst (λ s. IsNearTree s c.args.end.now) (sym c.store.ensures.nodes)
    (near_stays c.args.leaper.now.nodes c.difference.new.self.nodes c.requires.sound c.in_ok-found.ensures.goes_on.grows c.args.end.now c.requires.end)

pub difference_of-requires-clause-expected : goal.difference_of-requires-clause-expected
difference_of-requires-clause-expected g c =
    subst (λ s. IsNearTree s c.args.expected.now) (sym c.store.ensures.nodes)
    (near_stays c.args.leaper.now.nodes c.difference.new.self.nodes c.requires.sound c.in_ok-found.ensures.goes_on.grows c.args.expected.now c.requires.expected)

pub difference_of-requires-clause-other : goal.difference_of-requires-clause-other
difference_of-requires-clause-other g c =
    let old = c.args.leaper.now.nodes in
    let new = c.store.result.now in
    let ends : (x y : ℤ) → cell new c.args.end.now x y ≡ cell old c.args.end.now x y = λ x y.
    ap (λ s. cell s c.args.end.now x y) c.store.ensures.nodes ∙ trees_stay old c.difference.new.self.nodes c.requires.sound c.in_ok-found.ensures.goes_on.grows c.args.end.now c.requires.end.is_tree x y in
    let expected : (x y : ℤ) → cell new c.args.expected.now x y ≡ cell old c.args.expected.now x y = λ x y.
    ap (λ s. cell s c.args.expected.now x y) c.store.ensures.nodes ∙ trees_stay old c.difference.new.self.nodes c.requires.sound c.in_ok-found.ensures.goes_on.grows c.args.expected.now c.requires.expected.is_tree x y in
    some_as c.in_ok-found.found (λ at. cell old c.args.end.now at.x at.y ≢ cell old c.args.expected.now at.x at.y) (λ at. cell new c.args.end.now at.x at.y ≢ cell new c.args.expected.now at.x at.y)
    (λ at other same. other (sym (ends at.x at.y) ∙ (same ∙ expected at.x at.y))) c.in_ok-found.ensures.some

pub returns-clause-difference : goal.returns-clause-difference
returns-clause-difference g c =
    let old = c.args.leaper.now.nodes in
    let new = c.store.result.now in
    difference_told (cell new c.args.end.now) (cell new c.args.expected.now) (cell old c.args.end.now) (cell old c.args.expected.now) c.args.gens c.difference_of.result c.in_ok-found.found
    (λ x y. sym (ap (λ s. cell s c.args.end.now x y) c.store.ensures.nodes ∙ trees_stay old c.difference.new.self.nodes c.requires.sound c.in_ok-found.ensures.goes_on.grows c.args.end.now c.requires.end.is_tree x y))
    (λ x y. sym (ap (λ s. cell s c.args.expected.now x y) c.store.ensures.nodes ∙ trees_stay old c.difference.new.self.nodes c.requires.sound c.in_ok-found.ensures.goes_on.grows c.args.expected.now c.requires.expected.is_tree x y))
    c.in_ok-found.ensures.none.0 c.difference_of.ensures
