use Rattle.std.proofs.Common.{◌≡◌, false, suc, ◌+◌, ◌-◌, ◌<◌, [], ◌∷◌, length, get_or, sym, ap, ap₂, ◌∙◌, arith, slice_index}
use Rattle.std.proofs.lemmas.List.{length-append}
use Rattle.ca_plane.specs.Prelude.{row_cells}
use Rattle.ca_bricks.specs.Prelude.{nine_at, states_of, node_state, diagram_next}
use Rattle.ca_bricks.specs.declared.diagram.Node.TheVariants.{State}
use Rattle.ca_bricks.specs.inner.Planes.{cells_at, tile_planes}
use Rattle.ca_bricks.proofs.Planes.{read, states_more, tile_more}
use Rattle.ca_bricks.proofs.TileCells.{told_within}
use Rattle.ca_bricks.proofs.diagram.Diagram.next_tile.Goals as goal

pub nodes-init : goal.nodes-init
nodes-init c = record { made = λ x y h k. ap (λ l. cells_at (tile_planes l) (suc x) (suc y)) c.clear.ensures.items; size = ap length c.clear.ensures.items }

pub nodes-preserved : goal.nodes-preserved
nodes-preserved c =
    let nodes = c.args.self.now.nodes.items in
    let planes = c.nodes.states.items in
    let bits = c.node_bits-bits.result in
    let k = c.nodes.node-index in
    record {
      made = λ x y h i.
          let nine = nine_at (row_cells c.args.alive.rows) x y in
          let h' : suc x < 16 = omega (arith, h) in
          let i' : suc y < 16 = omega (arith, i) in
          let state = c.node_bits-bits.ensures (suc x) (suc y) h' i'
          ∙ ap₂ (λ cells l. node_state cells l (get_or c.deref-node-items.result.now k (State false))) (c.nine_bits-nine.ensures x y h i) (ap (λ l. cells_at (tile_planes l) (suc x) (suc y)) c.deref.ensures.value)
          ∙ ap (λ l. node_state nine (cells_at (tile_planes planes) (suc x) (suc y)) (get_or l k (State false))) c.deref-node-items.ensures.value in
          ap (λ l. cells_at (tile_planes l) (suc x) (suc y)) c.in_ok-push.ensures.items ∙ tile_more planes bits (suc x) (suc y)
          ∙ states_more nodes nine (cells_at (tile_planes planes) (suc x) (suc y)) k (row_cells bits.rows (suc x) (suc y)) (c.nodes.invariant.made x y h i) state;
      size = ap length c.in_ok-push.ensures.items ∙ length-append planes (bits ∷ []) ∙ ap (λ n. n + 1) c.nodes.invariant.size;
    }

pub returns : goal.returns
returns c =
    let nodes = c.args.self.now.nodes.items in
    let planes = c.nodes.states.items in
    let size = c.nodes.invariant.size in
    let all : c.nodes.node-index ≡ length nodes = omega (arith, c.nodes-test.false, c.nodes.auto.node-index-end, ap length c.deref-node-items.ensures.value) in
    let last : c.saturating_sub.result ≡ length nodes - 1
    = c.saturating_sub.ensures ∙ ap (λ n. n - 1) (c.len.ensures ∙ sym c.deref-2.ensures.len ∙ ap length c.deref-2.ensures.value ∙ size ∙ all) in
    told_within (diagram_next nodes) c.args.alive.rows c.bits_at.result.rows (λ x y h i.
    let nine = nine_at (row_cells c.args.alive.rows) x y in
    c.bits_at.ensures (suc x) (suc y) (omega (arith, h)) (omega (arith, i)) ∙ ap₂ (λ l n. row_cells (get_or (tile_planes l) n []) (suc x) (suc y)) c.deref-2.ensures.value last
    ∙ sym (read (tile_planes planes) (length nodes - 1) (suc x) (suc y))
    ∙ ap (λ l. slice_index l (length nodes - 1)) (c.nodes.invariant.made x y h i ∙ ap (states_of nodes nine) all))
