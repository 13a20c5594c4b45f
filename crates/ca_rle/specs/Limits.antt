-- The limits of an RLE text (our own): what is out of range, and how many live cells are too many.
use Rattle.std.specs.Prelude.{◌<◌, ◌≤◌, length}
use Rattle.std.specs.List.{AllByRecursion}
use Rattle.ca_plane.specs.Prelude.{longest_count, most_cells, IsInRange}
use Rattle.ca_rle.specs.{File.RleFile, Shown.picture_of_items}

-- each count is small enough, and the corner and each cell are in range
pub record IsRleWithinRange (file : RleFile) : Type 0 where
  pub counts : AllByRecursion (λ i. i.count ≤ longest_count) file.items
  pub corner : IsInRange file.corner
  pub cells : AllByRecursion (λ e. IsInRange e.0) (picture_of_items file.corner file.items)

-- out of range
abbrev pub IsRleOutOfRange : RleFile → Type 0
IsRleOutOfRange file = IsRleWithinRange file → ⊥

-- in range, but with too many live cells
abbrev pub HasTooManyRleCells : RleFile → Type 0
HasTooManyRleCells file = IsRleWithinRange file × (most_cells < length (picture_of_items file.corner file.items))

-- no limit is passed
abbrev pub IsWithinLimits : RleFile → Type 0
IsWithinLimits file = IsRleWithinRange file × (length (picture_of_items file.corner file.items) ≤ most_cells)
