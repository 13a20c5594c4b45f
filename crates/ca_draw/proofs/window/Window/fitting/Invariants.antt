use Rattle.std.proofs.Common.{◌≤◌}
use Rattle.ca_draw.specs.declared.window.Window.{Window}
use Rattle.ca_draw.specs.Prelude.{ShowsBox}
use Rattle.ca_draw.proofs.window.Window.fitting.Given as goal

-- no window of the scales so far shows the box
abbrev pub invariant-scales : goal.invariant-scales
invariant-scales l = (other : Window) → ShowsBox l.bounds l.columns l.rows other → l.scale ≤ other.scale
