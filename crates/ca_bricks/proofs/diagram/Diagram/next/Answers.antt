use Rattle.std.proofs.Common.{◌≡◌, false, ◌+◌, ◌-◌, [], ◌∷◌, length, get_or, sym, ap, ap₂, ◌∙◌, arith, slice_index}
use Rattle.std.proofs.lemmas.List.{length-append}
use Rattle.ca_bricks.specs.Prelude.{states_of, node_state}
use Rattle.ca_bricks.specs.declared.diagram.Node.TheVariants.{State}
use Rattle.ca_bricks.proofs.Planes.{states_more}
use Rattle.ca_bricks.proofs.diagram.Diagram.next.Goals as goal

pub nodes-init : goal.nodes-init
nodes-init c = record { made = c.clear.ensures.items; size = ap length c.clear.ensures.items }

pub nodes-preserved : goal.nodes-preserved
nodes-preserved c =
    let nodes = c.args.self.now.nodes.items in
    let states = c.nodes.states.items in
    let k = c.nodes.node-index in
    let state = c.state-state.ensures
    ∙ ap₂ (λ l m. node_state c.args.nine.now l (get_or m k (State false))) c.deref.ensures.value c.deref-node-items.ensures.value in
    record {
      made = c.in_ok-push.ensures.items ∙ states_more nodes c.args.nine.now states k c.state-state.result c.nodes.invariant.made state;
      size = ap length c.in_ok-push.ensures.items ∙ length-append states (c.state-state.result ∷ []) ∙ ap (λ n. n + 1) c.nodes.invariant.size;
    }

pub returns : goal.returns
returns c =
    let nodes = c.args.self.now.nodes.items in
    let all : c.nodes.node-index ≡ length nodes = omega (arith, c.nodes-test.false, c.nodes.auto.node-index-end, ap length c.deref-node-items.ensures.value) in
    let last : c.saturating_sub.result ≡ length nodes - 1
    = c.saturating_sub.ensures ∙ ap (λ n. n - 1) (c.len.ensures ∙ sym c.deref-2.ensures.len ∙ ap length c.deref-2.ensures.value ∙ c.nodes.invariant.size ∙ all) in
    c.state_at.ensures ∙ ap₂ slice_index (c.deref-2.ensures.value ∙ c.nodes.invariant.made ∙ ap (states_of nodes c.args.nine.now) all) last
