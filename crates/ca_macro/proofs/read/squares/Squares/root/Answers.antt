use Rattle.std.proofs.Common.{◌≡◌, ◌-◌, Some, length, ap, sym, subst, arith}
use Rattle.std.specs.List.{slice_get}
use Rattle.ca_macro.proofs.EmptySquares.{leaf_empty}
use Rattle.ca_macro.proofs.KeptSquares.{root_shows, no_root_shows}
use Rattle.ca_macro.proofs.read.squares.Squares.root.Goals as goal

pub returns-in-Some-clause-tree : goal.returns-in-Some-clause-tree
returns-in-Some-clause-tree c = λ nodes h.
    let items = c.args.self.now.squares.items in
    let at : slice_get items (length items - 1) ≡ Some c.in-Some.square.now = subst (λ xs. slice_get xs (length xs - 1) ≡ Some c.in-Some.square.now) c.deref.ensures.value (sym c.in-Some.ensures.value) in
    (root_shows c.args.store.now nodes c.args.self.now c.in-Some.square.now h at).0

pub returns-in-Some-clause-cells : goal.returns-in-Some-clause-cells
returns-in-Some-clause-cells c = λ nodes h.
    let items = c.args.self.now.squares.items in
    let at : slice_get items (length items - 1) ≡ Some c.in-Some.square.now = subst (λ xs. slice_get xs (length xs - 1) ≡ Some c.in-Some.square.now) c.deref.ensures.value (sym c.in-Some.ensures.value) in
    (root_shows c.args.store.now nodes c.args.self.now c.in-Some.square.now h at).1

pub returns-in_ok-leaf-in-None-clause-cells : goal.returns-in_ok-leaf-in-None-clause-cells
returns-in_ok-leaf-in-None-clause-cells c = λ nodes h.
    let items = c.args.self.now.squares.items in
    let same = ap length c.deref.ensures.value in
    let least = c.in-None.ensures.item.3 in
    let none : length items ≡ 0 = omega arith in
    no_root_shows c.args.store.now c.leaf.new.self nodes c.args.self.now c.in_ok-leaf-in-None.field-0 h none (leaf_empty c.leaf.new.self c.in_ok-leaf-in-None.field-0 c.in_ok-leaf-in-None.ensures.shows)
