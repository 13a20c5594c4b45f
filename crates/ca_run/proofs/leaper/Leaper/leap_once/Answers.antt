use Rattle.std.proofs.Common.{◌≡◌, refl, inl, inr, ℕ, ◌+◌, ◌-◌, ◌*◌, ◌%◌, ◌<◌, ◌≤◌, ◌^◌, List, sym, ap, subst, ◌∙◌, arith}
use Rattle.std.specs.Prelude.{ℤ, replicate}
use Rattle.ca_plane.specs.Prelude.{cells_after}
use Rattle.ca_quad.specs.Prelude.{IsSoundStore, Grows, IsTree, cell, IsTrimmed}
use Rattle.ca_quad.specs.declared.{node.Node.Node, tree.Tree.Tree}
use Rattle.ca_quad.proofs.Cells.{one_up}
use Rattle.ca_quad.proofs.Shifts.{some_level}
use Rattle.ca_run.specs.declared.leaper.dense.ReachedTree.{ReachedTree}
use Rattle.ca_run.specs.Prelude.{LeaperView, LeaperGrows}
use Rattle.ca_run.specs.inner.OwnStore.{KeepsOn}
use Rattle.ca_run.specs.inner.Dense.{HasReached}
use Rattle.ca_run.proofs.OwnStore.{keeps_then, keeps_of}
use Rattle.ca_run.proofs.DenseRuns.{reached_kept, reached_level, reached_moved, leapt_on}
use Rattle.ca_run.proofs.Trees.{shifted_one}
use Rattle.ca_run.proofs.leaper.Leaper.leap_once.Goals as goal

-- what is reached by a leap more, of 2 ^ j generations
with_leap : (next : List ℕ → ℕ) (s0 s1 s2 : List Node) (first : Tree) (n : ℕ) (reached : ReachedTree) → HasReached next s0 first n s1 reached → 1 ≤ first.level → (more : Tree) (j : ℕ) → j ≤ 60 → 2 ^ j ≤ n - reached.generations
    → reached.generations < n → IsTree s2 more → IsTrimmed s2 more → ((x y : ℤ) → cell s2 more x y ≡ cells_after next (cell s1 reached.tree) (2 ^ j) x y)
    → HasReached next s0 first n s2 (record { tree = more; generations = reached.generations + 1 * 2 ^ j % 18446744073709551616 })
with_leap next s0 s1 s2 first n reached run some more j low fits left is_tree trimmed leapt =
    let power = shifted_one j low in
    let sum : reached.generations + 2 ^ j ≡ reached.generations + 1 * 2 ^ j % 18446744073709551616 = omega (arith, power) in
    leapt_on next s0 s1 first n reached run s2 more (2 ^ j) (reached.generations + 1 * 2 ^ j % 18446744073709551616) some sum (omega (arith, sum, fits, left)) is_tree trimmed leapt

pub leap-requires-clause-level : goal.leap-requires-clause-level
leap-requires-clause-level g c =
    let quiet = subst (λ l. g.A.Automaton.next_of l.rule (replicate 9 0) ≡ 0) c.self.view_is (g.met.A.Automaton.quiet c.self.inside.rule c.self.invariant.rule) in
    let some = some_level c.args.origin.now c.count-known.ensures.sound c.args.first.now c.requires.first.is_tree in
    reached_level (g.A.Automaton.next_of c.args.self.now.rule) c.args.origin.now c.args.self.now.nodes c.args.first.now c.args.n c.args.reached c.requires.reached quiet some c.requires.first.level c.requires.first.time

pub with_tree-requires : goal.with_tree-requires
with_tree-requires g c = λ x y.
    let leapt = subst (λ l. (x y : ℤ) → cell c.leap.new.self.nodes c.in-Ok.tree x y ≡ cells_after (g.A.Automaton.next_of l.rule) (cell l.nodes c.args.reached.tree) (2 ^ c.digit-digit.result) x y) c.set_room.ensures c.in-Ok.ensures.advanced.cells in
    let some = some_level c.args.origin.now c.count-known.ensures.sound c.args.first.now c.requires.first.is_tree in
    let run = with_leap (g.A.Automaton.next_of c.args.self.now.rule) c.args.origin.now c.args.self.now.nodes c.leap.new.self.nodes c.args.first.now c.args.n c.args.reached c.requires.reached some c.in-Ok.tree c.digit-digit.result
    c.digit-digit.ensures.low c.digit-digit.ensures.fits c.requires.more c.in-Ok.ensures.advanced.is_tree c.in-Ok.ensures.trimmed leapt in
    subst (λ r. cell c.leap.new.self.nodes c.in-Ok.tree x y ≡ cells_after (g.A.Automaton.next_of r) (cell c.args.origin.now c.args.first.now) (c.args.reached.generations + 1 * 2 ^ c.digit-digit.result % 18446744073709551616) x y)
    (sym (c.in-Ok.ensures.at_cost.goes_on.rule ∙ ap (λ l. l.rule) c.set_room.ensures)) (run.cells x y)

pub returns-in-Ok-clause-reached : goal.returns-in-Ok-clause-reached
returns-in-Ok-clause-reached g c =
    let leapt = subst (λ l. (x y : ℤ) → cell c.leap.new.self.nodes c.in-Ok.tree x y ≡ cells_after (g.A.Automaton.next_of l.rule) (cell l.nodes c.args.reached.tree) (2 ^ c.digit-digit.result) x y) c.set_room.ensures c.in-Ok.ensures.advanced.cells in
    let some = some_level c.args.origin.now c.count-known.ensures.sound c.args.first.now c.requires.first.is_tree in
    with_leap (g.A.Automaton.next_of c.args.self.now.rule) c.args.origin.now c.args.self.now.nodes c.leap.new.self.nodes c.args.first.now c.args.n c.args.reached c.requires.reached some c.in-Ok.tree c.digit-digit.result
    c.digit-digit.ensures.low c.digit-digit.ensures.fits c.requires.more c.in-Ok.ensures.advanced.is_tree c.in-Ok.ensures.trimmed leapt

pub returns-in_ok-tree-in-Err-Memory-clause-reached : goal.returns-in_ok-tree-in-Err-Memory-clause-reached
returns-in_ok-tree-in-Err-Memory-clause-reached g c =
    let next = g.A.Automaton.next_of c.args.self.now.rule in
    let s0 = c.args.origin.now in
    let first = c.args.first.now in
    let mid = c.leap.new.self.nodes in
    let kept = reached_kept next s0 c.args.self.now.nodes mid first c.args.n c.args.reached (subst (λ l. IsSoundStore l.nodes) c.self.view_is c.self.invariant.squares) (subst (λ l. Grows l.nodes mid) c.set_room.ensures c.in-Err-Memory.ensures.at_cost.goes_on.grows) c.requires.reached in
    reached_moved next s0 mid first c.args.n c.args.reached kept c.make_another_try.new.self.nodes c.in_ok-tree-in-Err-Memory.tree c.in_ok-tree-in-Err-Memory.ensures.moved

pub returns-in-Ok-clause-nearer : goal.returns-in-Ok-clause-nearer
returns-in-Ok-clause-nearer g c =
    let power = shifted_one c.digit-digit.result c.digit-digit.ensures.low in
    let some = one_up c.digit-digit.result in
    inl (omega (arith, power, some), c.note_leap.ensures)

pub returns-in_ok-tree-in-Err-Memory-clause-nearer : goal.returns-in_ok-tree-in-Err-Memory-clause-nearer
returns-in_ok-tree-in-Err-Memory-clause-nearer g c = inr (refl, c.in_ok-tree-in-Err-Memory.ensures.tries)

-- the leap goes on from what there was before its room was set
leap_keeps : {Rule : Type 0} {old set new : LeaperView Rule} → set ≡ old → LeaperGrows Rule set new → KeepsOn Rule old new
leap_keeps {Rule} {new = new} same on = subst (λ l. KeepsOn Rule l new) same (keeps_of on)

pub returns-in-Ok-clause-keeps : goal.returns-in-Ok-clause-keeps
returns-in-Ok-clause-keeps g c = leap_keeps c.set_room.ensures c.leap.ensures.at_cost.goes_on

pub returns-in-Err-Work-clause-keeps : goal.returns-in-Err-Work-clause-keeps
returns-in-Err-Work-clause-keeps g c = leap_keeps c.set_room.ensures c.leap.ensures.at_cost.goes_on

pub returns-in_err-tree-in-Err-Memory-clause-keeps : goal.returns-in_err-tree-in-Err-Memory-clause-keeps
returns-in_err-tree-in-Err-Memory-clause-keeps g c = keeps_then (leap_keeps c.set_room.ensures c.leap.ensures.at_cost.goes_on) c.make_another_try.ensures.keeps

pub returns-in_ok-tree-in-Err-Memory-clause-keeps : goal.returns-in_ok-tree-in-Err-Memory-clause-keeps
returns-in_ok-tree-in-Err-Memory-clause-keeps g c = keeps_then (leap_keeps c.set_room.ensures c.leap.ensures.at_cost.goes_on) c.make_another_try.ensures.keeps
