use Rattle.std.proofs.Common.{◌≡◌, suc, ◌+◌, ◌≤◌, max, refl, sym, subst, ◌∙◌, arith}
use Rattle.std.specs.Prelude.{replicate}
use Rattle.ca_quad.specs.declared.tree.Tree.{Tree}
use Rattle.ca_quad.specs.Prelude.{IsTree}
use Rattle.ca_run.specs.Prelude.{IsCentre}
use Rattle.ca_run.specs.inner.Padded.{IsPadded}
use Rattle.ca_run.proofs.Costs.{at_cost_more, at_both_costs, at_wide_cost, wide_squares}
use Rattle.ca_run.proofs.Trees.{leap_cells}
use Rattle.ca_run.proofs.leaper.Leaper.leap.Goals as goal

pub returns-clause-advanced : goal.returns-clause-advanced
returns-clause-advanced g c =
    let k = c.max-part_level.result in
    let j = c.args.j in
    let tree = c.args.tree in
    let wide = c.in_ok-wide.wide in
    let root = c.in_ok-root.root in
    let next = g.A.Automaton.next_of c.args.self.now.rule in
    let quiet = subst (λ l. g.A.Automaton.next_of l.rule (replicate 9 0) ≡ 0) c.self.view_is (g.met.A.Automaton.quiet c.self.inside.rule c.self.invariant.rule) in
    let same : c.level.result ≡ tree.level = c.level.ensures.level ∙ (subst (λ l. IsTree l.nodes tree) (sym c.self.view_is) c.requires.tree).is_level in
    let some : 1 ≤ tree.level = omega (arith, same, c.level.ensures.least) in
    let low : tree.level ≤ k = omega (arith, same, c.max-part_level.ensures) in
    let time : j + 1 ≤ k = omega (arith, c.max-part_level.ensures) in
    let two : k + 2 ≡ suc (suc k) = omega arith in
    let one : k + 1 ≡ suc k = omega arith in
    let s0 = c.args.self.now.nodes in
    let s1 = c.padded_tree.new.self.nodes in
    let s2 = c.centre.new.self.nodes in
    let s3 = c.trim.new.self.nodes in
    let result : Tree = record { root = root; level = k + 1 } in
    let trimmed = c.in_ok-trim.ensures in
    let padded = subst (λ l. IsPadded s0 tree l s1 wide) two c.in_ok-wide.ensures.padded in
    let centred = subst (λ r. IsCentre (g.A.Automaton.next_of r) s2 wide.root k j root) c.in_ok-wide.ensures.at_cost.goes_on.rule c.in_ok-root.ensures.centre in
    record {
      is_tree = trimmed.tree;
      level = omega (arith, same, trimmed.level, c.max-part_level.ensures, c.requires.level, c.requires.time);
      cells = λ x y. trimmed.cells x y ∙ leap_cells next quiet s0 s1 s2 c.in_ok-wide.ensures.at_cost.goes_on.grows.sound c.in_ok-root.ensures.at_cost.goes_on.grows tree wide result k j root
          some low time padded centred refl one x y;
    }

pub returns-in_err-wide-clause-at_cost : goal.returns-in_err-wide-clause-at_cost
returns-in_err-wide-clause-at_cost g c =
    let tree = c.args.tree in
    let same : c.level.result ≡ tree.level = c.level.ensures.level ∙ (subst (λ l. IsTree l.nodes tree) (sym c.self.view_is) c.requires.tree).is_level in
    let some : 1 ≤ tree.level = omega (arith, same, c.level.ensures.least) in
    let part_level : c.max-part_level.result ≡ max tree.level (c.args.j + 1) = omega (arith, same, c.max-part_level.ensures) in
    let few = wide_squares tree.level c.args.j c.max-part_level.result part_level some c.requires.level c.requires.time in
    at_cost_more c.in_err-wide.ensures.at_cost (omega arith) (omega (arith, few))

pub returns-in_err-root-clause-at_cost : goal.returns-in_err-root-clause-at_cost
returns-in_err-root-clause-at_cost g c =
    let tree = c.args.tree in
    let same : c.level.result ≡ tree.level = c.level.ensures.level ∙ (subst (λ l. IsTree l.nodes tree) (sym c.self.view_is) c.requires.tree).is_level in
    let some : 1 ≤ tree.level = omega (arith, same, c.level.ensures.least) in
    let part_level : c.max-part_level.result ≡ max tree.level (c.args.j + 1) = omega (arith, same, c.max-part_level.ensures) in
    at_cost_more (at_wide_cost tree.level c.args.j c.max-part_level.result part_level some c.requires.level c.requires.time c.in_ok-wide.ensures.at_cost c.in_err-root.ensures.at_cost) (omega arith) (omega arith)

pub returns-in_err-trim-clause-at_cost : goal.returns-in_err-trim-clause-at_cost
returns-in_err-trim-clause-at_cost g c =
    let tree = c.args.tree in
    let same : c.level.result ≡ tree.level = c.level.ensures.level ∙ (subst (λ l. IsTree l.nodes tree) (sym c.self.view_is) c.requires.tree).is_level in
    let some : 1 ≤ tree.level = omega (arith, same, c.level.ensures.least) in
    let part_level : c.max-part_level.result ≡ max tree.level (c.args.j + 1) = omega (arith, same, c.max-part_level.ensures) in
    at_cost_more (at_both_costs (at_wide_cost tree.level c.args.j c.max-part_level.result part_level some c.requires.level c.requires.time c.in_ok-wide.ensures.at_cost c.in_ok-root.ensures.at_cost) c.in_err-trim.ensures.at_cost) (omega arith) (omega arith)

pub returns-clause-at_cost : goal.returns-clause-at_cost
returns-clause-at_cost g c =
    let tree = c.args.tree in
    let same : c.level.result ≡ tree.level = c.level.ensures.level ∙ (subst (λ l. IsTree l.nodes tree) (sym c.self.view_is) c.requires.tree).is_level in
    let some : 1 ≤ tree.level = omega (arith, same, c.level.ensures.least) in
    let part_level : c.max-part_level.result ≡ max tree.level (c.args.j + 1) = omega (arith, same, c.max-part_level.ensures) in
    at_cost_more (at_both_costs (at_wide_cost tree.level c.args.j c.max-part_level.result part_level some c.requires.level c.requires.time c.in_ok-wide.ensures.at_cost c.in_ok-root.ensures.at_cost) c.in_ok-trim.ensures.at_cost) (omega arith) (omega arith)
