use Rattle.std.proofs.Common.{◌≡◌, [], ◌∷◌, ◌++◌, map, refl, sym, ap, subst, ◌∙◌}
use Rattle.ca_quad.specs.Prelude.{IsEmpty, cell, level_of}
use Rattle.ca_macro.specs.Prelude.{AreTidyNodes}
use Rattle.ca_macro.specs.inner.Written.{node_of, empty_root, kept_cells, KeepsFirstOrder}
use Rattle.ca_macro.proofs.Roots.{empty_tree_nodes, tree_nodes, root_states}
use Rattle.ca_macro.proofs.write.nodes.nodes_of.Goals as goal

pub returns-then-is_empty : goal.returns-then-is_empty
returns-then-is_empty c =
    let one : map node_of c.push.new.self.items ≡ empty_root c.args.states ∷ [] =
    ap (map node_of) (c.in_ok-push.ensures.items ∙ ap (λ l. l ++ c.empty_root.result ∷ []) c.new.ensures.items) ∙ ap (λ n. n ∷ []) c.empty_root.ensures in
    subst (AreTidyNodes c.args.states (cell c.args.store.now c.args.tree)) (sym one)
    (empty_tree_nodes c.args.store.now c.args.tree c.args.states ((c.is_empty.ensures c.args.tree.level c.requires.tree).0 c.if-is_empty.true))

pub number-requires-clause-states : goal.number-requires-clause-states
number-requires-clause-states c = root_states c.args.store.now c.args.tree c.requires.tree c.args.states c.requires.states

pub returns : goal.returns
returns c =
    let ns = map node_of c.number.new.gathered.nodes.items in
    let live = λ (e : IsEmpty (kept_cells c.args.store.now c.args.tree.root)).
    let yes = (c.is_empty.ensures (level_of c.args.store.now c.args.tree.root) (record { before = c.requires.tree.before; is_level = refl })).1 e in absurd cc in
    let goes = subst (λ l. KeepsFirstOrder (map node_of l) ns c.in_ok-number.field-0) c.new.ensures.items c.in_ok-number.ensures.order in
    tree_nodes c.args.store.now c.args.tree c.requires.tree c.args.states ns c.number.new.gathered.numbers c.requires.level c.in_ok-number.ensures.gathered live
    c.in_ok-number.field-0 c.in_ok-number.ensures.number (c.in_ok-number.ensures.last live (c.new-2.ensures c.args.tree.root)) goes
