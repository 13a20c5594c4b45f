use Rattle.std.proofs.Common.{◌≡◌, Some, length, refl, inl, inr, subst}
use Rattle.std.specs.List.{slice_get}
use Rattle.std.proofs.lemmas.Option.{slice_get_read}
use Rattle.ca_quad.specs.inner.Drawn.{IsReadyToDraw, IsLiveIn}
use Rattle.ca_quad.proofs.RowPlaces.{rest_at, all_at}
use Rattle.ca_quad.proofs.store.Store.halves_of.Goals as goal

pub squares-preserved : goal.squares-preserved
squares-preserved c =
    let nodes = c.args.self.now in
    let squares = c.args.squares.now in
    let k = c.squares.square-index in
    let s = c.square-item.result in
    let at : slice_get squares k ≡ Some s = slice_get_read squares (length squares) k s refl c.squares-test.true c.square-item.is in
    let (live, ready) = c.squares.invariant in
    let pushed = c.in_ok-push_parts.ensures in (
      λ x y l. elim (live x y l) [
        | inl h ↦ inl (pushed.live x y (inl h))
        | inr rest ↦ elim (subst (λ rs. IsLiveIn nodes rs x y) (rest_at squares k s at) rest) [ inl here ↦ inl (pushed.live x y (inr here)) | inr more ↦ inr more ]
      ],
      λ all are. pushed.ready all (all_at (IsReadyToDraw nodes all c.args.level) squares k s at are) (ready all are),
    )
