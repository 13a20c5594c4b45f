-- The tables of rule lines, or that there are none.
use Rattle.std.proofs.Common.{◌≡◌, ℕ, List, Vec, Global, refl}
use Rattle.ca_rule.specs.Prelude.{TableRule}
use Rattle.ca_verify.specs.declared.verifier.tables.{FaultyTable.FaultyTable, Tables.Tables}
use Rattle.ca_text.specs.Prelude.{path_at, FirstBad}
use Rattle.ca_answers.specs.Prelude.{SuppliedFiles, IsTableAt, AreTables, IsThere, IsMissing, HoldsTable}
use Rattle.ca_verify.specs.declared.verifier.tables.Tables.TheVariants.{Missing, Faulty, Read}
use Rattle.ca_verify.specs.NeededFiles.{IsFaultyAt, AreRead}
use Rattle.ca_verify.proofs.Verdicts.{tables_there, there_or_none, all_or_some, table_or_fault}
use Rattle.ca_text.proofs.PairedLists.{first_weaker, some_first, zip_left}

module _ (files : SuppliedFiles) (rules : List (List ℕ)) (tables : List TableRule) (are : AreTables files rules tables) where
  -- none is missing
  none_missing : (path : List ℕ) → FirstBad (IsThere files) (λ p. (p ≡ path) × IsMissing files p) rules → ⊥
  none_missing path first = all_or_some (IsThere files) (IsMissing files) (there_or_none files) rules (tables_there files rules tables are)
      (some_first (IsThere files) (IsMissing files) rules (first_weaker (IsThere files) (λ p. (p ≡ path) × IsMissing files p) (IsMissing files) (λ p h. h.1) rules first))

  -- nor faulty
  none_bad : (paths : List (List ℕ)) (faulty : FaultyTable) → FirstBad (HoldsTable files) (IsFaultyAt files paths faulty) rules → ⊥
  none_bad paths faulty first = all_or_some (HoldsTable files) (IsFaultyAt files paths faulty) (λ p good bad. table_or_fault files p faulty.fault good bad.1) rules
      (zip_left (IsTableAt files) (HoldsTable files) (λ path table at. (table, at)) rules tables are)
      (some_first (HoldsTable files) (IsFaultyAt files paths faulty) rules first)

-- tables that aren't read are none
pub unread_tables : (files : SuppliedFiles) (paths rules : List (List ℕ)) (tables : Tables) → ((ts : Vec TableRule Global) → tables ≡ Read ts → ⊥) → AreRead files paths rules tables
    → (us : List TableRule) → AreTables files rules us → ⊥
unread_tables files paths rules (Missing place) other read us are = none_missing files rules us are (path_at paths place) read.1
unread_tables files paths rules (Faulty faulty) other read us are = none_bad files rules us are paths faulty read.2
unread_tables files paths rules (Read ts) other read us are = absurd (other ts refl)
