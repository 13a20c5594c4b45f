use Rattle.std.proofs.Common.{◌≡◌, ℕ, ◌≤◌, suc, ◌-◌, sym, subst, ◌∙◌, arith}
use Rattle.std.proofs.lemmas.Bool.Decides.{nat_tests}
use Rattle.ca_quad.specs.declared.tree.Tree.{Tree}
use Rattle.ca_quad.specs.Prelude.{IsOf, cell_of, IsSoundStore, cell}
use Rattle.ca_quad.specs.inner.Ring.{TellsMiddle, HasNoRing, IsMiddleSquare}
use Rattle.ca_quad.proofs.Rings.{ring_keeps}
use Rattle.ca_quad.proofs.Trims.{trees_stay, trimmed_as, cells_as, no_ring}
use Rattle.ca_quad.proofs.store.Store.+trim.Goals as goal
use Rattle.ca_quad.proofs.store.Store.+trim.Goals.{After-middle, In-Some}

pub returns-in_default-clause-cells : goal.returns-in_default-clause-cells
returns-in_default-clause-cells t c =
    trees_stay c.args.self.now c.middle.new.self (subst IsSoundStore c.self.view_is c.self.invariant) c.middle.ensures.grows c.args.tree c.requires.tree

-- the level of the middle
lower : (t : ℕ) (c : After-middle t) → (suc (c.args.tree.level - 1) ≡ c.args.tree.level) × (1 ≤ c.args.tree.level - 1) × IsOf c.args.self.now c.args.tree.root (suc (c.args.tree.level - 1))
lower t c =
    let level = c.level.ensures.level ∙ c.requires.tree.is_level in
    let e : suc (c.args.tree.level - 1) ≡ c.args.tree.level = grind (arith, nat_tests) in
    (e, grind (arith, nat_tests), record { before = c.requires.tree.before; is_level = c.requires.tree.is_level ∙ sym e })

pub returns-in_default-clause-trimmed : goal.returns-in_default-clause-trimmed
returns-in_default-clause-trimmed t c =
    let tree = c.args.tree in
    let old = c.args.self.now in
    let k = tree.level - 1 in
    let (e, some, h) = lower t (goal.at.returns-in_default-clause-trimmed t c).After-middle in
    let no_cells : HasNoRing k (cell_of old (suc k) tree.root) = subst (TellsMiddle c.middle.new.self k (cell_of old (suc k) tree.root)) c.in_default.is (c.in_ok-root.ensures.tells k h) in
    trimmed_as old c.middle.new.self tree (trees_stay old c.middle.new.self (subst IsSoundStore c.self.view_is c.self.invariant) c.middle.ensures.grows tree c.requires.tree)
    (no_ring old tree k e some (subst (λ l. HasNoRing k (cell_of old l tree.root)) e no_cells))

-- the root's middle
middle : (t : ℕ) (c : In-Some t) → IsOf c.args.self.now c.args.tree.root (suc (c.args.tree.level - 1))
    → IsMiddleSquare c.middle.new.self (c.args.tree.level - 1) (cell_of c.args.self.now (suc (c.args.tree.level - 1)) c.args.tree.root) c.in-Some.root
middle t c h =
    let k = c.args.tree.level - 1 in
    subst (TellsMiddle c.middle.new.self k (cell_of c.args.self.now (suc k) c.args.tree.root)) c.in-Some.is (c.in_ok-root.ensures.tells k h)

pub trim-requires : goal.trim-requires
trim-requires t c =
    let a = goal.at.trim-requires t c in
    let (e, some, h) = lower t a.After-middle in
    let is = (middle t a.In-Some h).is_square in
    let f = is.is_level in
    let g = c.requires.tree.is_level in
    (omega arith, is)

pub returns-clause-cells : goal.returns-clause-cells
returns-clause-cells t c =
    let a = goal.at.returns-clause-cells t c in
    let (e, some, h) = lower t a.After-middle in
    let small : Tree = record { root = c.in-Some.root; level = c.args.tree.level - 1 } in
    let keeps = ring_keeps c.middle.new.self c.args.self.now small c.args.tree some (sym e) (middle t a.In-Some h).is_ringed in
    cells_as c.trim.new.self c.trim.result (cell c.middle.new.self small) (cell c.args.self.now c.args.tree) (λ x y. sym (keeps x y)) c.trim.ensures.cells
