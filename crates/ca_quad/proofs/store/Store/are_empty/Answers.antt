use Rattle.std.proofs.Common.{◌≡◌, inl, inr, Some, length, get_or, refl, ap, sym, subst, ◌∙◌, arith}
use Rattle.std.specs.List.{slice_get}
use Rattle.std.proofs.lemmas.Bool.{cases_eq}
use Rattle.std.proofs.lemmas.Option.{get_or_from_slice_get, slice_get_read}
use Rattle.ca_quad.specs.inner.Ring.{IsEmptySquare}
use Rattle.ca_quad.proofs.store.Store.are_empty.Goals as goal

pub squares-preserved : goal.squares-preserved
squares-preserved c = λ i d low.
    let ids = c.args.squares.now in
    let k = c.squares.square-index in
    let id = c.square-item.result in
    let at : slice_get ids k ≡ Some id = slice_get_read ids (length ids) k id refl c.squares-test.true c.square-item.is in
    elim (cases_eq i k) [
      | inl same ↦
          subst (IsEmptySquare c.args.self.now) (sym (ap (λ n. get_or ids n d) same ∙ get_or_from_slice_get ids k id d at))
          (λ level of. (c.is_empty.ensures level of).0 c.if-not-is_empty.false)
      | inr other ↦ c.squares.invariant i d (omega (arith, low, other))
    ]
