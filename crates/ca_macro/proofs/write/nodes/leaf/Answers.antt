use Rattle.std.proofs.Common.{◌<◌, slice_index, sym, subst}
use Rattle.ca_quad.specs.Prelude.{cell_of}
use Rattle.ca_macro.specs.inner.Written.{IsNodeOf}
use Rattle.ca_macro.proofs.WrittenNodes.{two_level, one_level, leaf_node, cells_node}
use Rattle.ca_macro.proofs.write.nodes.leaf.Goals as goal

pub leaf8-requires-clause-states : goal.leaf8-requires-clause-states
leaf8-requires-clause-states c = λ x y.
    subst (λ n. cell_of c.args.store.now 3 c.args.id x y < n) c.if-states-eq2.true
    (subst (λ l. cell_of c.args.store.now l c.args.id x y < c.args.states) (two_level c.args.states _ c.if-states-eq2.true c.requires.level) (c.requires.states x y))

pub returns-then-states-eq2-clause-node : goal.returns-then-states-eq2-clause-node
returns-then-states-eq2-clause-node c = λ ns.
    subst (IsNodeOf c.args.store.now c.args.states ns c.args.id) (sym c.rows_node.ensures.node)
    (leaf_node c.args.store.now c.args.states ns c.args.id c.leaf8.result c.if-states-eq2.true (two_level c.args.states _ c.if-states-eq2.true c.requires.level) c.rows_node.ensures.height c.rows_node.ensures.low c.leaf8.ensures)

pub returns-clause-node : goal.returns-clause-node
returns-clause-node c = λ ns.
    subst (IsNodeOf c.args.store.now c.args.states ns c.args.id) (sym c.states_node.ensures.node)
    (cells_node c.args.store.now c.args.states ns c.args.id (slice_index c.cells4.result 0) (slice_index c.cells4.result 1) (slice_index c.cells4.result 2) (slice_index c.cells4.result 3)
    c.if-states-eq2.false (one_level c.args.states _ c.if-states-eq2.false c.requires.level) (c.states_node.ensures.low 0) (c.states_node.ensures.low 1) (c.states_node.ensures.low 2) (c.states_node.ensures.low 3)
    c.cells4.ensures.corners.has_cells)
