use Rattle.std.proofs.Common.{refl, slice_index, subst}
use Rattle.ca_quad.specs.Prelude.{one_cell, joined_cells, ShowsSquare}
use Rattle.ca_macro.specs.Prelude.{Cells, squares_of}
use Rattle.ca_macro.proofs.KeptSquares.{with_square, empties_stay, cells_drawn}
use Rattle.ca_macro.proofs.read.squares.Squares.add_cells.Goals as goal

pub returns-clause-added : goal.returns-clause-added
returns-clause-added c = λ nodes nw ne sw se h e low.
    let old = c.args.self.now in
    let new = c.leaf.new.self in
    let id = c.in_ok-root.root in
    let grows = c.in_ok-root.ensures.grows in
    let shows : ShowsSquare new id 1 (joined_cells 1 (one_cell nw) (one_cell ne) (one_cell sw) (one_cell se)) =
    subst (λ l. ShowsSquare new id 1 (joined_cells 1 (one_cell (slice_index l 0)) (one_cell (slice_index l 1)) (one_cell (slice_index l 2)) (one_cell (slice_index l 3)))) e c.in_ok-root.ensures.shows in
    with_square c.args.store.now new grows nodes old (record { squares = c.push.new.self; empties = old.empties }) (Cells nw ne sw se) (record { root = id; level = 1 }) h
    c.in_ok-push.ensures.items (empties_stay c.args.store.now new h.sound grows old.empties.ids.items h.empties) refl
    (cells_drawn new id nw ne sw se shows low (squares_of nodes))
