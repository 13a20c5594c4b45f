-- The tables at the places of rule lines, and what is wrong with the first that is faulty.
use Rattle.std.proofs.Common.{◌≡◌, ℕ, ◌<◌, List, [], ◌∷◌, map, length, get_or, Bor, Option, Some, None, ap, subst, inl, inr}
use Rattle.std.specs.List.{AllByRecursion, AllZip}
use Rattle.std.specs.Option.{option_copied}
use Rattle.ca_rule.specs.Prelude.{TableRule}
use Rattle.ca_verify.specs.declared.verifier.tables.FaultyTable.{FaultyTable}
use Rattle.ca_answers.specs.declared.cause.Cause.TheVariants.{NoFile, BadTable}
use Rattle.ca_text.specs.declared.{asks.Asks.Asks, both.Both.Both}
use Rattle.ca_text.specs.Prelude.{path_at, HoldsOfBoth, SomeOf, FirstBad}
use Rattle.ca_answers.specs.Prelude.{SuppliedFiles, bytes_at, IsMissing, IsThere, HoldsTable, AreTables, IsBadTable}
use Rattle.ca_verify.specs.inner.Found.{IsFound, IsTableFound, IsFaultFound}
use Rattle.ca_verify.specs.NeededFiles.{IsFaultyAt}
use Rattle.ca_verify.specs.declared.refusal.About.TheVariants as about
use Rattle.ca_verify.specs.inner.Refusals.{IsRefusal}
use Rattle.ca_verify.proofs.Causes.{bytes_found}
use Rattle.ca_text.proofs.PairedLists.{first_weaker, some_first}
use Rattle.ca_verify.proofs.FoundFiles.{found-length}

-- what holds of all holds of one of them
pub holds_of_some : {X : Type 0} (P Q : X → Type 0) (x : X) → ((y : X) → Q y → y ≡ x) → (xs : List X) → AllByRecursion P xs → SomeOf Q xs → P x
holds_of_some P Q x same [] all some = absurd some
holds_of_some P Q x same (y ∷ ys) all (inl here) = subst P (same y here) all.0
holds_of_some P Q x same (y ∷ ys) all (inr later) = holds_of_some P Q x same ys all.1 later

module _ (files : SuppliedFiles) (paths : List (List ℕ)) (found : List (Option (Bor (List ℕ)))) (same : map option_copied found ≡ map (bytes_at files) paths) where
  -- a place within the table is that of a path
  within_paths : (place : ℕ) → place < length found → place < length paths
  within_paths place within = subst (λ n. place < n) (found-length option_copied (bytes_at files) found paths same) within

  -- a file that is found is there
  pub found_all : (places : List ℕ) → AllByRecursion (λ i. i < length found) places → AllByRecursion (IsFound found) places → AllByRecursion (IsThere files) (map (path_at paths) places)
  found_all [] within there = tt
  found_all (i ∷ is) within there = ((there.0.0.now, bytes_found files paths found i (Some there.0.0) same within.0 there.0.1), found_all is within.1 there.1)

  -- the file at the first place that is empty is the first that is missing
  empty_at : (places : List ℕ) → AllByRecursion (λ i. i < length found) places → (place : ℕ) → FirstBad (IsFound found) (λ i. (i ≡ place) × (get_or found i None ≡ None)) places
      → FirstBad (IsThere files) (λ p. (p ≡ path_at paths place) × IsMissing files p) (map (path_at paths) places)
  empty_at [] within place some = some
  empty_at (i ∷ is) within place (inl here) = inl (ap (path_at paths) here.0, bytes_found files paths found i None same within.0 here.1)
  empty_at (i ∷ is) within place (inr later) =
      inr ((later.0.0.now, bytes_found files paths found i (Some later.0.0) same within.0 later.0.1), empty_at is within.1 place later.1)

  pub missing_at : (places : List ℕ) → AllByRecursion (λ i. i < length found) places → (place : ℕ) → FirstBad (IsFound found) (λ i. (i ≡ place) × (get_or found i None ≡ None)) places
      → (place < length paths) × FirstBad (IsThere files) (λ p. (p ≡ path_at paths place) × IsMissing files p) (map (path_at paths) places)
  missing_at places within place first = (
    within_paths place (holds_of_some (λ i. i < length found) (λ i. (i ≡ place) × (get_or found i None ≡ None)) place (λ i h. h.0) places within
        (some_first (IsFound found) (λ i. (i ≡ place) × (get_or found i None ≡ None)) places first)),
    empty_at places within place first,
  )

  -- the tables that are found are those of the paths
  pub tables_at : (places : List ℕ) → AllByRecursion (λ i. i < length found) places → (tables : List TableRule) → AllZip (IsTableFound found) places tables
      → AreTables files (map (path_at paths) places) tables
  tables_at [] within [] all = tt
  tables_at [] within (t ∷ ts) all = absurd all
  tables_at (i ∷ is) within [] all = absurd all
  tables_at (i ∷ is) within (t ∷ ts) all =
      ((all.0.0.now, bytes_found files paths found i (Some all.0.0) same within.0 all.0.1, all.0.2), tables_at is within.1 ts all.1)

  -- the first that is faulty is so at its path
  first_at : (places : List ℕ) → AllByRecursion (λ i. i < length found) places → (faulty : FaultyTable)
      → FirstBad (λ i. (table : TableRule) × IsTableFound found i table) (IsFaultFound found faulty) places → FirstBad (HoldsTable files) (IsFaultyAt files paths faulty) (map (path_at paths) places)
  first_at [] within faulty first = first
  first_at (i ∷ is) within faulty (inl here) =
      inl (ap (path_at paths) here.0, (here.1.now, bytes_found files paths found i (Some here.1) same within.0 here.2, here.3))
  first_at (i ∷ is) within faulty (inr later) =
      let held = later.0 in
      inr ((held.0, (held.1.0.now, bytes_found files paths found i (Some held.1.0) same within.0 held.1.1, held.1.2)), first_at is within.1 faulty later.1)

  pub faulty_at : (places : List ℕ) → AllByRecursion (λ i. i < length found) places → (faulty : FaultyTable) → AllByRecursion (IsFound found) places
      → FirstBad (λ i. (table : TableRule) × IsTableFound found i table) (IsFaultFound found faulty) places
      → (faulty.place < length paths) × AllByRecursion (IsThere files) (map (path_at paths) places) × FirstBad (HoldsTable files) (IsFaultyAt files paths faulty) (map (path_at paths) places)
  faulty_at places within faulty there first = (
    within_paths faulty.place (holds_of_some (λ i. i < length found) (IsFaultFound found faulty) faulty.place (λ i h. h.0) places within
        (some_first (λ i. (table : TableRule) × IsTableFound found i table) (IsFaultFound found faulty) places first)),
    found_all places within there,
    first_at places within faulty first,
  )

module _ (files : SuppliedFiles) (paths rules : List (List ℕ)) (asks : Asks) (patterns : Both (List ℕ)) where
  -- where a rule line's file is missing, no claim is judged
  pub refused_missing : (place : ℕ) → place < length paths → HoldsOfBoth (IsThere files) patterns → FirstBad (IsThere files) (λ p. (p ≡ path_at paths place) × IsMissing files p) rules
      → IsRefusal files paths rules asks patterns (record { cause = NoFile; about = about.RuleFile place })
  refused_missing place within there first = record {
    holds = inr (some_first (IsThere files) (IsMissing files) rules (first_weaker (IsThere files) (λ p. (p ≡ path_at paths place) × IsMissing files p) (IsMissing files) (λ p h. h.1) rules first));
    idle = λ e. cc;
    on = (within, (there, first));
  }

  -- nor where one is faulty
  pub refused_faulty : (faulty : FaultyTable) → faulty.place < length paths → HoldsOfBoth (IsThere files) patterns → AllByRecursion (IsThere files) rules
      → FirstBad (HoldsTable files) (IsFaultyAt files paths faulty) rules → IsRefusal files paths rules asks patterns (record { cause = BadTable faulty.fault; about = about.RuleFile faulty.place })
  refused_faulty faulty within there all first = record {
    holds = ((there, all), first_weaker (HoldsTable files) (IsFaultyAt files paths faulty) (IsBadTable files faulty.fault) (λ p h. h.1) rules first);
    idle = λ e. cc;
    on = (within, first);
  }
