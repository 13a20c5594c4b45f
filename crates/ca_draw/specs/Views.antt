-- Which window of a plane is drawn.
use Rattle.std.specs.Prelude.{◌≡◌, ◌⊎◌, ℕ, ◌≤◌, ◌/◌, ◌==◌, if◌then◌else◌, ℤ, pos, ◌+ℤ◌, ◌-ℤ◌, Option, None, Some, unwrap_or}
use Rattle.ca_quad.specs.declared.tree.{Spot.Spot, WideBounds.WideBounds}
use Rattle.ca_quad.specs.Prelude.{IsDead, IsLeastWideBox}
use Rattle.ca_draw.specs.declared.{drawing.ImageFormat.ImageFormat, window.Window.Window, view.Size.Size, view.View.View, view.WindowFault.WindowFault}
use Rattle.ca_draw.specs.declared.drawing.ImageFormat.TheVariants.{Text, Pgm}
use Rattle.ca_draw.specs.Windows.{IsInSquare, IsWindow, ShowsBox, window_at}
use Rattle.ca_draw.specs.declared.view.WindowFault.TheVariants.{Range, TooLarge}

-- the box that is drawn of some cells: the smallest one round those that are live, or where none is, that of the cell
-- at (0, 0)
abbrev pub IsBoxShown : (ℤ → ℤ → ℕ) → WideBounds → Type 0
IsBoxShown cells box = IsLeastWideBox cells box
    ⊎ (IsDead cells × (box ≡ record { x0 = pos 0; y0 = pos 0; x1 = pos 0; y1 = pos 0 }))

-- the same of the smallest box round the live cells, if there are any
abbrev pub box_shown : Option WideBounds → WideBounds
box_shown bounds = unwrap_or bounds (record { x0 = pos 0; y0 = pos 0; x1 = pos 0; y1 = pos 0 })

-- the size that is taken where none is asked for (our own): 80 by 40 characters, or 1024 by 1024 pixels
abbrev pub usual_size : ImageFormat → Size
usual_size Text = record { width = 80; height = 40 }
usual_size Pgm = record { width = 1024; height = 1024 }

-- the largest size of a window
abbrev pub most_size : Size
most_size = record { width = 8192; height = 8192 }

-- the same for a corner and a scale, where these are asked for: a whole box at a given scale may be as large as any
abbrev pub other_size : Option Spot → Option ℕ → ImageFormat → Size
other_size None (Some scale) format = most_size
other_size None None format = usual_size format
other_size (Some corner) scale format = usual_size format

-- how many squares lie side by side in `side` characters or pixels, where each takes as many as the zoom says
abbrev pub squares_in : (zoom side : ℕ) → ℕ
squares_in zoom side = if zoom == 0 then 0 else side / zoom

-- the size in squares that a window has, or at most has: what is asked for in characters or pixels has room for them
abbrev pub size_of : View → ImageFormat → Size
size_of view format =
    let size = unwrap_or view.size (other_size view.corner view.scale format) in
    record { width = squares_in view.zoom size.width; height = squares_in view.zoom size.height }

-- the window shows the whole box in a size at most, and has no column and no row without a cell of the box
pub record ShowsWhole (box : WideBounds) (size : Size) (window : Window) : Type 0 where
  pub shows : ShowsBox box size.width size.height window
  pub begins : IsInSquare window.scale window.column window.row box.x0 box.y0
  pub ends : IsInSquare window.scale ((window.column +ℤ pos window.width) -ℤ pos 1) ((window.row +ℤ pos window.height) -ℤ pos 1) box.x1 box.y1

-- the window has the scale that is asked for, or where none is, the smallest at which a window of the size shows the whole box
abbrev pub HasScale : Option ℕ → WideBounds → Size → Window → Type 0
HasScale (Some scale) box size window = window.scale ≡ scale
HasScale None box size window = (other : Window) → ShowsBox box size.width size.height other → window.scale ≤ other.scale

-- no window of the size shows the whole box, at the scale that is asked for, or where none is, at any
abbrev pub HasNoScale : Option ℕ → WideBounds → Size → Type 0
HasNoScale (Some scale) box size = (other : Window) → other.scale ≡ scale → ShowsBox box size.width size.height other → ⊥
HasNoScale None box size = (other : Window) → ShowsBox box size.width size.height other → ⊥

-- the window that begins with a corner, at the scale that is asked for, or else at scale 0
abbrev pub window_from : Spot → Option ℕ → Size → Window
window_from corner scale size = window_at corner (unwrap_or scale 0) size.width size.height

-- the window is the one that is asked for: that which begins with a corner; or where none is asked for, one of the whole box
abbrev pub IsWindowFrom : Option Spot → Option ℕ → Size → WideBounds → Window → Type 0
IsWindowFrom (Some corner) scale size box window = (window ≡ window_from corner scale size) × IsWindow window
IsWindowFrom None scale size box window = ShowsWhole box size window × HasScale scale box size window

abbrev pub IsWindowFor : View → ImageFormat → WideBounds → Window → Type 0
IsWindowFor view format box window = IsWindowFrom view.corner view.scale (size_of view format) box window

-- why there is no such window: the one that begins with the corner isn't within the limits; or the whole box doesn't fit into the size
abbrev pub IsNoWindowFrom : Option Spot → Option ℕ → Size → WideBounds → WindowFault → Type 0
IsNoWindowFrom (Some corner) scale size box Range = IsWindow (window_from corner scale size) → ⊥
IsNoWindowFrom (Some corner) scale size box TooLarge = ⊥
IsNoWindowFrom None scale size box Range = ⊥
IsNoWindowFrom None scale size box TooLarge = HasNoScale scale box size

abbrev pub IsNoWindowFor : View → ImageFormat → WideBounds → WindowFault → Type 0
IsNoWindowFor view format box fault = IsNoWindowFrom view.corner view.scale (size_of view format) box fault
