-- Windows that are asked for.
use Rattle.std.proofs.Common.{ℕ, Option, None, Some}
use Rattle.ca_quad.specs.declared.tree.{Spot.Spot, WideBounds.WideBounds}
use Rattle.ca_draw.specs.declared.{window.Window.Window, view.Size.Size}
use Rattle.ca_draw.specs.Prelude.{IsWindow, IsWindowFrom}

-- they are within the limits of windows
pub within_limits : (corner : Option Spot) (scale : Option ℕ) (size : Size) (box : WideBounds) (window : Window) → IsWindowFrom corner scale size box window → IsWindow window
within_limits (Some corner) scale size box window h = h.1
within_limits None scale size box window h = h.0.shows.is_window
