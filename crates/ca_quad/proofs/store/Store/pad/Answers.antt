use Rattle.std.proofs.Common.{◌≡◌, ◌≤◌, suc, ◌+◌, subst, arith}
use Rattle.ca_quad.specs.Prelude.{IsOf}
use Rattle.ca_quad.proofs.Rings.{ring_keeps}
use Rattle.ca_quad.proofs.store.Store.pad.Goals as goal

pub returns-clause-tree : goal.returns-clause-tree
returns-clause-tree c =
    let next : suc c.args.tree.level ≡ c.args.tree.level + 1 = omega arith in
    subst (IsOf c.with_ring.new.self c.in_ok-root.root) next (c.in_ok-root.ensures.shows c.args.tree.level c.requires.tree).is_square

pub returns-clause-cells : goal.returns-clause-cells
returns-clause-cells c =
    let some : 1 ≤ c.args.tree.level = omega (arith, c.in_ok-root.ensures.least, c.requires.tree.is_level) in
    ring_keeps c.args.self.now c.with_ring.new.self c.args.tree (record { root = c.in_ok-root.root; level = c.args.tree.level + 1 }) some (omega arith)
    (c.in_ok-root.ensures.shows c.args.tree.level c.requires.tree).is_ringed
