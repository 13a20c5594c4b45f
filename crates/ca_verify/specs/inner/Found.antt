-- What is found at the places of paths: the bytes of their files.
use Rattle.std.specs.Prelude.{◌≡◌, ℕ, List, get_or, Option, Some, None}
use Rattle.std.specs.Borrow.{Bor}
use Rattle.ca_rule.specs.Prelude.{TableRule}
use Rattle.ca_verify.specs.declared.verifier.tables.FaultyTable.{FaultyTable}
use Rattle.ca_pattern.specs.Prelude.{IsQuietTable, IsTableFault}

-- a file is found at a place
abbrev pub IsFound : List (Option (Bor (List ℕ))) → ℕ → Type 0
IsFound found i = (bytes : Bor (List ℕ)) × (get_or found i None ≡ Some bytes)

-- it is the text of this table
abbrev pub IsTableFound : List (Option (Bor (List ℕ))) → ℕ → TableRule → Type 0
IsTableFound found i table = (bytes : Bor (List ℕ)) × (get_or found i None ≡ Some bytes) × IsQuietTable bytes.now table

-- the place is that of a file with this fault
abbrev pub IsFaultFound : List (Option (Bor (List ℕ))) → FaultyTable → ℕ → Type 0
IsFaultFound found faulty i = (i ≡ faulty.place) × (bytes : Bor (List ℕ)) × (get_or found i None ≡ Some bytes) × IsTableFault bytes.now faulty.fault
