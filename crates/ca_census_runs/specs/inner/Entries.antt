-- The entries of a map from labels to numbers.
use Rattle.std.specs.Prelude.{ℕ, List, map, Vec}
use Rattle.std.specs.declared.alloc.Global.{Global}

-- an entry by the bytes of its label
abbrev pub by_bytes : Vec ℕ Global × ℕ → List ℕ × ℕ
by_bytes entry = (entry.0.items, entry.1)

-- all entries so, in order
abbrev pub counts_of : List (Vec ℕ Global × ℕ) → List (List ℕ × ℕ)
counts_of entries = map by_bytes entries
