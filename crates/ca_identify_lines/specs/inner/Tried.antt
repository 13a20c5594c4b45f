-- How far a search for a free name has come.
use Rattle.std.specs.Prelude.{◌≡◌, ℕ, ◌<◌, List, Vec, true}
use Rattle.std.specs.declared.alloc.Global.{Global}
use Rattle.std.specs.List.{AllByRecursion}
use Rattle.ca_identify_lines.specs.Names.{numbered_name, is_taken}

-- the first `count` of a name's numbered names are taken
abbrev pub IsTried : List (List ℕ) → List ℕ → ℕ → Type 0
IsTried taken name count = (k : ℕ) → k < count → is_taken taken (numbered_name name k) ≡ true

-- and of each of these names
abbrev pub AreTried : List (List ℕ) → List (Vec ℕ Global × ℕ) → Type 0
AreTried taken tried = AllByRecursion (λ entry. IsTried taken entry.0.items entry.1) tried
