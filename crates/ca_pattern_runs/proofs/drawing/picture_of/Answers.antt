use Rattle.ca_draw.specs.Prelude.{size_of}
use Rattle.ca_draw.proofs.AskedWindows.{within_limits}
use Rattle.ca_pattern_runs.proofs.drawing.picture_of.Goals as goal

-- the window that is asked for is one
pub draw-requires-clause-window : goal.draw-requires-clause-window
draw-requires-clause-window c = let view = c.args.request.view in
    within_limits view.corner view.scale (size_of view c.args.request.format) c.box_shown.result c.in-Ok-window.window c.in-Ok-window.ensures
