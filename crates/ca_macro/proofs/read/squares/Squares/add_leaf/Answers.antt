use Rattle.ca_macro.specs.Prelude.{Leaf, squares_of}
use Rattle.std.proofs.Common.{refl}
use Rattle.ca_macro.proofs.KeptSquares.{with_square, empties_stay, leaf_drawn}
use Rattle.ca_macro.proofs.read.squares.Squares.add_leaf.Goals as goal

pub returns-clause-added : goal.returns-clause-added
returns-clause-added c = λ nodes leaf h e low.
    let old = c.args.self.now in
    let grows = c.in_ok-root.ensures.grows in
    with_square c.args.store.now c.from_leaf8.new.self grows nodes old (record { squares = c.push.new.self; empties = old.empties }) (Leaf leaf) (record { root = c.in_ok-root.root; level = 3 }) h
    c.in_ok-push.ensures.items (empties_stay c.args.store.now c.from_leaf8.new.self h.sound grows old.empties.ids.items h.empties) refl
    (leaf_drawn c.from_leaf8.new.self c.in_ok-root.root c.args.rows.now leaf c.in_ok-root.ensures.shows e low (squares_of nodes))
