use Rattle.std.proofs.Common.{◌∙◌}
use Rattle.ca_quad.specs.Prelude.{cell}
use Rattle.ca_pattern.proofs.Corners.{far_corner_wide, corner_wide}
use Rattle.ca_apgcode_search.proofs.LeastBoxes.{no_text_dead, no_text_large, in_window, IsBoxRound-drawn}
use Rattle.ca_apgcode_search.proofs.boxes.box_round.Goals as goal

pub returns-in_default-clause-grid : goal.returns-in_default-clause-grid
returns-in_default-clause-grid c = no_text_dead (cell c.args.store.now c.args.tree.now) (rw c.in_default.is at c.in_ok-bounds.ensures.bounds)

pub window_of-requires-clause-wide : goal.window_of-requires-clause-wide
window_of-requires-clause-wide c =
    let p = cell c.args.store.now c.args.tree.now in
    let least = rw c.in-Some.is at c.in_ok-bounds.ensures.bounds in
    let corner = corner_wide p c.in-Some.bounds least c.requires.tree.near in
    let far = far_corner_wide p c.in-Some.bounds least c.requires.tree.near in
    record { left = corner.0; top = corner.1; right = far.0; bottom = far.1 }

pub returns-in_default-window_of-clause-grid : goal.returns-in_default-window_of-clause-grid
returns-in_default-window_of-clause-grid c = no_text_large (cell c.args.store.now c.args.tree.now) c.in-Some.bounds (rw c.in-Some.is at c.in_ok-bounds.ensures.bounds) c.in_default-window_of.ensures

pub draw-requires-clause-inside : goal.draw-requires-clause-inside
draw-requires-clause-inside c = λ x y live.
    in_window (cell c.args.store.now c.args.tree.now) c.in-Some.bounds c.in-Some-window_of.window (rw c.in-Some.is at c.in_ok-bounds.ensures.bounds) c.in-Some-window_of.ensures x y (λ none. live (c.in_ok-plane.ensures x y ∙ none))

pub returns-clause-grid : goal.returns-clause-grid
returns-clause-grid c =
    IsBoxRound-drawn (cell c.args.store.now c.args.tree.now) c.in-Some.bounds c.in-Some-window_of.window (rw c.in-Some.is at c.in_ok-bounds.ensures.bounds) c.in-Some-window_of.ensures c.in_ok-plane.plane c.in_ok-grid.grid c.in_ok-plane.ensures c.in_ok-grid.ensures
