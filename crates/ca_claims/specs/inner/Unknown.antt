-- Which of the files that were found ask for a rule that isn't known.
use Rattle.std.specs.Prelude.{◌≡◌, ◌↔◌, ℕ, ◌<◌, List, get_or, Bool, false, IsTrue, Option, Some, None, ◌⊎◌}
use Rattle.std.specs.Borrow.{Bor}
use Rattle.std.specs.List.{list_any}
use Rattle.std.specs.Str.{bytes_eq}
use Rattle.ca_rule.specs.Prelude.{TableRule}
use Rattle.ca_claims.specs.Unknown.{HoldsUnknownRule}

-- the file is needed and was found, and its rule text is this name of no rule
abbrev pub AsksFor : List TableRule → (needed : Bool) → Option (Bor (List ℕ)) → List ℕ → Type 0
AsksFor tables needed file name = IsTrue needed × (bytes : Bor (List ℕ)) × (file ≡ Some bytes) × HoldsUnknownRule tables name bytes.now

-- so does one of the first n files
abbrev pub IsAskedBefore : List TableRule → List Bool → List (Option (Bor (List ℕ))) → (n : ℕ) → List ℕ → Type 0
IsAskedBefore tables needed found n name = (i : ℕ) × (i < n) × AsksFor tables (get_or needed i false) (get_or found i None) name

-- the names are those that the first n files ask for
abbrev pub AreAskedBefore : List TableRule → List Bool → List (Option (Bor (List ℕ))) → (n : ℕ) → List (List ℕ) → Type 0
AreAskedBefore tables needed found n names = (name : List ℕ) → IsTrue (list_any (bytes_eq name) names) ↔ IsAskedBefore tables needed found n name

-- the name that a file asks for was added to the names, if it asks for one
abbrev pub AddsAsked : List TableRule → Bool → Option (Bor (List ℕ)) → (old new : List (List ℕ)) → Type 0
AddsAsked tables needed file old new = (name : List ℕ)
    → IsTrue (list_any (bytes_eq name) new) ↔ (IsTrue (list_any (bytes_eq name) old) ⊎ AsksFor tables needed file name)
