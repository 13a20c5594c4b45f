-- The limit of a macrocell text (our own): which of its live cells are out of range.
use Rattle.std.specs.List.{AllByRecursion}
use Rattle.ca_plane.specs.Prelude.{IsInRange}
use Rattle.ca_macro.specs.{File.MacrocellFile, Shown.picture_of_nodes}

-- each live cell is in range
abbrev pub IsMacrocellWithinRange : MacrocellFile → Type 0
IsMacrocellWithinRange file = AllByRecursion (λ e. IsInRange e.0) (picture_of_nodes file.nodes)

-- some live cell isn't in range
abbrev pub IsMacrocellOutOfRange : MacrocellFile → Type 0
IsMacrocellOutOfRange file = IsMacrocellWithinRange file → ⊥
