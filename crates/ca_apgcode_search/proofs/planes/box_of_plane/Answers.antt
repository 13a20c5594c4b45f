use Rattle.std.proofs.Common.{refl}
use Rattle.ca_plane.specs.Prelude.{cell}
use Rattle.ca_apgcode_search.proofs.LeastBoxes.{no_text_dead, no_text_large, in_window, IsBoxRound-drawn}
use Rattle.ca_apgcode_search.proofs.planes.box_of_plane.Goals as goal

pub returns-in_default : goal.returns-in_default
returns-in_default c = no_text_dead (cell c.args.plane.now) (rw c.in_default.is at c.wide_bounds.ensures.least)

pub returns-in_default-window_of : goal.returns-in_default-window_of
returns-in_default-window_of c =
    no_text_large (cell c.args.plane.now) c.in-Some.bounds (rw c.in-Some.is at c.wide_bounds.ensures.least) c.in_default-window_of.ensures

pub draw-requires-clause-inside : goal.draw-requires-clause-inside
draw-requires-clause-inside c =
    in_window (cell c.args.plane.now) c.in-Some.bounds c.in-Some-window_of.window (rw c.in-Some.is at c.wide_bounds.ensures.least) c.in-Some-window_of.ensures

pub returns : goal.returns
returns c =
    IsBoxRound-drawn (cell c.args.plane.now) c.in-Some.bounds c.in-Some-window_of.window (rw c.in-Some.is at c.wide_bounds.ensures.least) c.in-Some-window_of.ensures
    c.args.plane.now c.in_ok-grid.grid (λ x y. refl) c.in_ok-grid.ensures
