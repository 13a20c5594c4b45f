use Rattle.std.proofs.Common.{◌≡◌, false, ◌+◌, ◌-◌, [], ◌∷◌, length, get_or, sym, ap, ap₂, ◌∙◌, arith, slice_index}
use Rattle.std.proofs.lemmas.List.{length-append}
use Rattle.ca_plane.specs.Prelude.{row_cells}
use Rattle.ca_bricks.specs.Prelude.{round_cells, nine_at, states_of, node_state}
use Rattle.ca_bricks.specs.declared.diagram.Node.TheVariants.{State}
use Rattle.ca_bricks.specs.inner.Planes.{cells_at}
use Rattle.ca_bricks.proofs.Planes.{read, states_more, cells_more}
use Rattle.ca_bricks.proofs.diagram.Diagram.next_rows.Goals as goal

pub nodes-init : goal.nodes-init
nodes-init c = record { made = λ x y h k. ap (λ l. cells_at l x y) c.clear.ensures.items; size = ap length c.clear.ensures.items }

pub nodes-preserved : goal.nodes-preserved
nodes-preserved c =
    let nodes = c.args.self.now.nodes.items in
    let planes = c.nodes.states.items in
    let rows = c.node_rows-rows.result in
    let k = c.nodes.node-index in
    record {
      made = λ x y h i.
          let nine = nine_at (round_cells c.args.round.now) x y in
          let state = c.node_rows-rows.ensures x y h i
          ∙ ap₂ (λ cells l. node_state cells l (get_or c.deref-node-items.result.now k (State false))) (c.nine-nine.ensures x y h i) (ap (λ l. cells_at l x y) c.deref.ensures.value)
          ∙ ap (λ l. node_state nine (cells_at planes x y) (get_or l k (State false))) c.deref-node-items.ensures.value in
          ap (λ l. cells_at l x y) c.in_ok-push.ensures.items ∙ cells_more planes rows x y
          ∙ states_more nodes nine (cells_at planes x y) k (row_cells rows x y) (c.nodes.invariant.made x y h i) state;
      size = ap length c.in_ok-push.ensures.items ∙ length-append planes (rows ∷ []) ∙ ap (λ n. n + 1) c.nodes.invariant.size;
    }

pub returns : goal.returns
returns c = λ x y h i.
    let nodes = c.args.self.now.nodes.items in
    let planes = c.nodes.states.items in
    let nine = nine_at (round_cells c.args.round.now) x y in
    let size = c.nodes.invariant.size in
    let all : c.nodes.node-index ≡ length nodes = omega (arith, c.nodes-test.false, c.nodes.auto.node-index-end, ap length c.deref-node-items.ensures.value) in
    let last : c.saturating_sub.result ≡ length nodes - 1
    = c.saturating_sub.ensures ∙ ap (λ n. n - 1) (c.len.ensures ∙ sym c.deref-2.ensures.len ∙ ap length c.deref-2.ensures.value ∙ size ∙ all) in
    c.rows_at.ensures x y ∙ ap₂ (λ l n. row_cells (get_or l n []) x y) c.deref-2.ensures.value last
    ∙ sym (read planes (length nodes - 1) x y)
    ∙ ap (λ l. slice_index l (length nodes - 1)) (c.nodes.invariant.made x y h i ∙ ap (states_of nodes nine) all)
