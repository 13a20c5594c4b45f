-- What is remembered of the names that were looked for.
use Rattle.std.proofs.Common.{◌≡◌, ◌≢◌, ◌⊎◌, ℕ, List, [], ◌∷◌, ◌++◌, length, slice_set, Option, Some, false, true, Result, IfOk, OnErr, MatchOption, Vec, refl, ap, subst, inl, inr}
use Rattle.std.specs.declared.alloc.Global.{Global}
use Rattle.std.proofs.lemmas.Result.{IfOk-weaker, on_err_weaker}
use Rattle.ca_report.specs.RulePaths.{is_file_name, rule_path}
use Rattle.ca_plane.specs.declared.memory.Memory.{Memory}
use Rattle.ca_host.specs.declared.files.FaultyFile.{FaultyFile}
use Rattle.ca_host.specs.declared.lookups.{Lookup.Lookup, NamedLookup.NamedLookup}
use Rattle.ca_host.specs.declared.lookups.Lookup.TheVariants as kind
use Rattle.ca_host.specs.Files.{Gives, Lacks}
use Rattle.ca_host.specs.RuleFiles.{Kept, IsUnknownRuleOf}
use Rattle.ca_host.specs.Lookups.{IsLookup, LooksOnce, IsTold, FindsOnce, SearchesOn}
use Rattle.ca_host.proofs.Found.{at_some}

seam : {X : Type 0} (xs : List X) (y z : X) → slice_set (xs ++ y ∷ []) (length xs) z ≡ xs ++ z ∷ []
seam [] y z = refl
seam (x ∷ xs) y z = ap (λ l. x ∷ l) (seam xs y z)

-- the last one is another
pub set_last : {X : Type 0} (xs all : List X) (place : ℕ) (y z : X) → all ≡ xs ++ y ∷ [] → place ≡ length xs → slice_set all place z ≡ xs ++ z ∷ []
set_last xs all place y z whole last = rw (whole, last) (seam xs y z)

-- where the file of a name stands that a file can have
pub stands_at : (folder used name asked : List ℕ) (found : Option (Vec ℕ Global)) (path : Vec ℕ Global) → found ≡ Some path → used ≡ folder → asked ≡ name
    → MatchOption found (is_file_name asked ≡ false) (λ p. (is_file_name asked ≡ true) × (p.items ≡ rule_path used asked))
    → (is_file_name name ≡ true) × (path.items ≡ rule_path folder name)
stands_at folder used name asked found path is is_folder is_name told =
    let here = at_some (is_file_name asked ≡ false) found (λ (p : Vec ℕ Global). (is_file_name asked ≡ true) × (p.items ≡ rule_path used asked)) path is told in
    subst (λ n. (is_file_name n ≡ true) × (path.items ≡ rule_path folder n)) is_name
    (subst (λ f. (is_file_name asked ≡ true) × (path.items ≡ rule_path f asked)) is_folder here)

-- what there is for the name is told
pub finds : (gives : Gives) (lacks : Lacks) (folder pattern name path asked at told_name told_path : List ℕ) (look : Lookup) (olds news : List NamedLookup) (old new : Kept)
    (r : Result (Option FaultyFile) Memory) → asked ≡ name → at ≡ path → told_name ≡ name → told_path ≡ path → IsUnknownRuleOf pattern old.tables name
    → (is_file_name name ≡ true) × (path ≡ rule_path folder name) → LooksOnce gives lacks asked at look olds news old new → IfOk r (IsTold told_name told_path look)
    → IfOk r (λ found. FindsOnce gives lacks folder pattern found olds news old new)
finds gives lacks folder pattern name path asked at told_name told_path look olds news old new r is_asked is_at is_name is_path unknown stands once told =
    let here = subst (λ n. LooksOnce gives lacks n path look olds news old new) is_asked (subst (λ p. LooksOnce gives lacks asked p look olds news old new) is_at once) in
    let said = subst (λ n. IfOk r (IsTold n path look)) is_name (subst (λ p. IfOk r (IsTold told_name p look)) is_path told) in
    IfOk-weaker r _ _ (λ found t. inr (
      name,
      unknown,
      stands.0,
      (look, subst (λ p. LooksOnce gives lacks name p look olds news old new) stands.1 here, subst (λ p. IsTold name p look found) stands.1 t),
    )) said

-- it was looked for, whatever comes of it
looked : (gives : Gives) (lacks : Lacks) (folder name path asked at : List ℕ) (look : Lookup) (olds news : List NamedLookup) (old new : Kept) → asked ≡ name → at ≡ path
    → (is_file_name name ≡ true) × (path ≡ rule_path folder name) → LooksOnce gives lacks asked at look olds news old new
    → LooksOnce gives lacks name (rule_path folder name) look olds news old new
looked gives lacks folder name path asked at look olds news old new is_asked is_at stands once =
    subst (λ p. LooksOnce gives lacks name p look olds news old new) stands.1
    (subst (λ n. LooksOnce gives lacks n path look olds news old new) is_asked (subst (λ p. LooksOnce gives lacks asked p look olds news old new) is_at once))

-- the rule files are as before where no table was found
unchanged : (gives : Gives) (lacks : Lacks) (name path : List ℕ) (look : Lookup) (olds news : List NamedLookup) (old new : Kept) → look ≢ kind.Found
    → LooksOnce gives lacks name path look olds news old new → new ≡ old
unchanged gives lacks name path look olds news old new other (inl remembered) = remembered.2
unchanged gives lacks name path look olds news old new other (inr added) = of_look look other added.2
  where
    of_look : (l : Lookup) → l ≢ kind.Found → IsLookup gives lacks name path l old new → new ≡ old
    of_look l other (inr none) = none.0
    of_look kind.Found other (inl there) = absurd (other refl)
    of_look kind.NoTable other (inl there) = there.2.0
    of_look (kind.Faulty fault) other (inl there) = there.2.0
    of_look kind.Memory other (inl there) = there.2

-- where it can't be told, it was looked for, and the rule files are as before
pub searches : (gives : Gives) (lacks : Lacks) (folder pattern name path asked at : List ℕ) (look : Lookup) (olds news : List NamedLookup) (old new : Kept)
    (r : Result (Option FaultyFile) Memory) → asked ≡ name → at ≡ path → IsUnknownRuleOf pattern old.tables name
    → (is_file_name name ≡ true) × (path ≡ rule_path folder name) → LooksOnce gives lacks asked at look olds news old new → OnErr r (look ≢ kind.Found)
    → OnErr r (SearchesOn gives lacks folder pattern olds news old)
searches gives lacks folder pattern name path asked at look olds news old new r is_asked is_at unknown stands once told =
    let here = looked gives lacks folder name path asked at look olds news old new is_asked is_at stands once in
    on_err_weaker r (λ other. inr (
      name,
      unknown,
      stands.0,
      (
        look,
        subst (λ k. LooksOnce gives lacks name (rule_path folder name) look olds news old k)
            (unchanged gives lacks name (rule_path folder name) look olds news old new other here) here,
      ),
    )) told
