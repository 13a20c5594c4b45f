use Rattle.std.proofs.Common.{◌≡◌, Some, length, refl, inl, inr, subst}
use Rattle.std.specs.List.{slice_get}
use Rattle.std.proofs.lemmas.Option.{slice_get_read}
use Rattle.ca_quad.specs.inner.Drawn.{IsReadyToDraw, IsLiveInRow}
use Rattle.ca_quad.proofs.RowPlaces.{rest_at, all_at}
use Rattle.ca_quad.proofs.store.Store.draw_row.Goals as goal

pub squares-preserved : goal.squares-preserved
squares-preserved c = λ all are.
    let nodes = c.args.self.now in
    let squares = c.args.squares.now in
    let k = c.squares.square-index in
    let s = c.square-item.result in
    let at : slice_get squares k ≡ Some s = slice_get_read squares (length squares) k s refl c.squares-test.true c.square-item.is in
    let (kept, put) = c.squares.invariant all are in
    let paints = c.in_ok-draw_two.ensures all (all_at (IsReadyToDraw nodes all 1) squares k s at are) in (
      λ x y h. paints.kept x y (kept x y h),
      λ x y live. elim (put x y live) [
        | inl e ↦ inl (paints.kept x y e)
        | inr rest ↦ elim (subst (λ rs. IsLiveInRow nodes c.args.row rs x y) (rest_at squares k s at) rest) [ inl here ↦ inl (paints.put x y here) | inr more ↦ inr more ]
      ],
    )
