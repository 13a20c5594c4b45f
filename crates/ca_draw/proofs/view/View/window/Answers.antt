use Rattle.std.proofs.Common.{MatchResult, Some, subst, sym}
use Rattle.ca_draw.specs.Prelude.{size_of, IsWindowFrom, IsNoWindowFrom}
use Rattle.ca_draw.proofs.view.View.window.Goals as goal

-- the window that begins with the corner that is asked for, of the size that is
pub returns-in-Some : goal.returns-in-Some
returns-in-Some c =
    let view = c.args.self in
    let bounds = c.args.bounds in
    subst (λ corner. MatchResult c.window_from.result (IsWindowFrom corner view.scale (size_of view c.args.format) bounds) (IsNoWindowFrom corner view.scale (size_of view c.args.format) bounds)) (sym c.in-Some.is)
    (
    subst
    (λ size. MatchResult c.window_from.result (IsWindowFrom (Some c.in-Some.corner) view.scale size bounds) (IsNoWindowFrom (Some c.in-Some.corner) view.scale size bounds))
    c.size-size.ensures
    (c.window_from.ensures bounds)
    )
