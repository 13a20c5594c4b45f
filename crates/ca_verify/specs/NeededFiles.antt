-- What was found at the paths of a text: the bytes of the files, and the tables of its rule lines.
use Rattle.std.specs.Prelude.{◌≡◌, ℕ, List, map, Option, ◌<◌, length}
use Rattle.std.specs.Borrow.{Bor}
use Rattle.std.specs.Option.{option_copied}
use Rattle.ca_verify.specs.declared.verifier.tables.{Tables.Tables, FaultyTable.FaultyTable}
use Rattle.ca_text.specs.Prelude.{ClaimText, path_at, FirstBad}
use Rattle.ca_answers.specs.Prelude.{SuppliedFiles, bytes_at, IsBadTable, IsMissing, IsThere, HoldsTable, AreTables}
use Rattle.std.specs.List.{AllByRecursion}
use Rattle.ca_verify.specs.declared.verifier.tables.Tables.TheVariants.{Missing, Faulty, Read}

-- this path is the first whose file is no good table, which has this fault
abbrev pub IsFaultyAt : SuppliedFiles → List (List ℕ) → FaultyTable → List ℕ → Type 0
IsFaultyAt files paths faulty path = (path ≡ path_at paths faulty.place) × IsBadTable files faulty.fault path

-- what was found at the paths of the rule lines: one is the first whose file is missing; or all are there, and one is the first that is
-- faulty; or they are these tables. A path is given by its place among all paths of the text
abbrev pub AreRead : SuppliedFiles → List (List ℕ) → List (List ℕ) → Tables → Type 0
AreRead files paths rules (Missing place) = (place < length paths) × FirstBad (IsThere files) (λ p. (p ≡ path_at paths place) × IsMissing files p) rules
AreRead files paths rules (Faulty faulty) = (faulty.place < length paths) × AllByRecursion (IsThere files) rules × FirstBad (HoldsTable files) (IsFaultyAt files paths faulty) rules
AreRead files paths rules (Read tables) = AreTables files rules tables.items

-- for each path of the text the bytes of its file, and the tables of the rule lines
pub record AreFound (files : SuppliedFiles) (asked : ClaimText) (found : List (Option (Bor (List ℕ)))) (tables : Tables) : Type 0 where
  pub found_at : map option_copied found ≡ map (bytes_at files) asked.paths
  pub read : AreRead files asked.paths asked.rules tables
