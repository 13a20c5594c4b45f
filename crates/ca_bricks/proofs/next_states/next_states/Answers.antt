use Rattle.std.proofs.Common.{◌+◌, [], ◌∷◌, length, inl, inr, sym, ap, ◌∙◌, arith, slice_index}
use Rattle.std.proofs.Math.ListN.{get_or-append}
use Rattle.std.proofs.Math.Seq.{get_or-append_seam}
use Rattle.std.proofs.lemmas.List.{length-append}
use Rattle.std.proofs.lemmas.Bool.{cases_eq}
use Rattle.ca_bricks.specs.inner.Neighbourhoods.{neighbourhood}
use Rattle.ca_bricks.proofs.next_states.next_states.Goals as goal

pub numbers-preserved : goal.numbers-preserved
numbers-preserved g c =
    let next = g.A.Automaton.next_of c.args.rule.now in
    let states = c.numbers.states.items in
    let state = c.next.result in
    let size = c.numbers.invariant.size in
    let longer = c.in_ok-push.ensures.items in
    record {
      made = λ n low. ap (λ l. slice_index l n) longer ∙ elim (cases_eq n (length states)) [
        | inl here ↦ ap (slice_index _) here ∙ get_or-append_seam states state [] 0
            ∙ c.next.ensures ∙ ap next c.neighbourhood.ensures ∙ ap (λ m. next (neighbourhood m)) (sym (here ∙ size))
        | inr other ↦ get_or-append states (state ∷ []) 0 n (omega (arith, low, other, size)) ∙ c.numbers.invariant.made n (omega (arith, low, other, size))
      ];
      size = ap length longer ∙ length-append states (state ∷ []) ∙ ap (λ n. n + 1) size;
    }
