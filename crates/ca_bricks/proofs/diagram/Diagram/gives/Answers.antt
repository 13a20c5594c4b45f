use Rattle.std.proofs.Common.{◌≡◌, inl, inr, sym, ap, ◌∙◌, arith, slice_index}
use Rattle.std.proofs.lemmas.Bool.{cases_eq}
use Rattle.std.proofs.lemmas.Bool.Decides.{nat_tests}
use Rattle.ca_bricks.specs.Prelude.{diagram_next}
use Rattle.ca_bricks.specs.inner.Neighbourhoods.{neighbourhood}
use Rattle.ca_bricks.proofs.diagram.Diagram.gives.Goals as goal

pub numbers-preserved : goal.numbers-preserved
numbers-preserved c = λ n low.
    let nodes = c.args.self.now.nodes.items in
    let same : c.in_ok-next.field-0 ≡ c.state_at.result = grind (arith, nat_tests) in
    elim (cases_eq n c.numbers.number) [
      | inl here ↦
          ap (slice_index c.args.next_states.now) (here ∙ sym c.from.ensures) ∙ sym c.state_at.ensures ∙ sym same ∙ c.in_ok-next.ensures ∙ ap (diagram_next nodes) c.neighbourhood-nine.ensures
          ∙ ap (λ m. diagram_next nodes (neighbourhood m)) (sym here)
      | inr other ↦ c.numbers.invariant n (omega (arith, low, other))
    ]
