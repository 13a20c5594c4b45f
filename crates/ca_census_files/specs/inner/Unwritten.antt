-- Why pattern files aren't written.
use Rattle.std.specs.Prelude.{List, ⊤}
use Rattle.std.specs.List.{Any}
use Rattle.ca_plane.specs.Prelude.{Picture, cell}
use Rattle.ca_pattern.specs.Prelude.{HasCellOutOfRange}
use Rattle.ca_census_files.specs.declared.files.FilesFault.{FilesFault}
use Rattle.ca_census_files.specs.declared.files.FilesFault.TheVariants.{GenTooLarge, Range, Memory}

-- some of these planes has a cell out of range, or memory is out
abbrev pub IsUnwritten : List Picture → FilesFault → Type 0
IsUnwritten planes GenTooLarge = ⊥
IsUnwritten planes Range = Any (λ cells. HasCellOutOfRange (cell cells)) planes
IsUnwritten planes Memory = ⊤

-- the plane has such a cell, or memory is out
abbrev pub IsUnwritable : Picture → FilesFault → Type 0
IsUnwritable cells GenTooLarge = ⊥
IsUnwritable cells Range = HasCellOutOfRange (cell cells)
IsUnwritable cells Memory = ⊤
