-- Rule lines that are added to a text.
use Rattle.std.proofs.Common.{◌≡◌, ℕ, ◌⊎◌, List, [], ◌∷◌, ◌++◌, Bool, true, false, Option, Some, Result, Ok, Err, IfOk, MatchOption, Vec, refl, subst, sym, ap, ◌∙◌, inl, inr}
use Rattle.std.proofs.lemmas.List.Elements.{All-append, All-nil, All-push}
use Rattle.ca_text.specs.Prelude.{ClaimText, with_rule_line}
use Rattle.ca_report.specs.RulePaths.{rule_path, is_file_name}
use Rattle.std.specs.declared.alloc.Global.{Global}
use Rattle.ca_host.specs.declared.{files.LoadedText.LoadedText}
use Rattle.cafile.specs.NamedRules.{label_of, IsRuleLabel, with_rule_lines, AddsRuleLines}

with_rule_lines-append : (asked : ClaimText) (xs ys : List (List ℕ)) → with_rule_lines asked (xs ++ ys) ≡ with_rule_lines (with_rule_lines asked xs) ys
with_rule_lines-append asked [] ys = refl
with_rule_lines-append asked (x ∷ xs) ys = with_rule_lines-append (with_rule_line asked x) xs ys

-- none are
pub adds_none : (folder : List ℕ) (has_root : Bool) (asked : ClaimText) → AddsRuleLines folder has_root asked asked
adds_none folder has_root asked = record { labels = []; are_labels = All-nil (IsRuleLabel folder has_root); is_new = refl }

-- one may be
pub adds_one : (folder : List ℕ) (has_root : Bool) (name path label : List ℕ) (old new : ClaimText) → is_file_name name ≡ true
    → path ≡ rule_path folder name → label ≡ label_of path has_root → (new ≡ old) ⊎ (new ≡ with_rule_line old label)
    → AddsRuleLines folder has_root old new
adds_one folder has_root name path label old new is_name is_path is_label (inl same) =
    record { labels = []; are_labels = All-nil (IsRuleLabel folder has_root); is_new = same }
adds_one folder has_root name path label old new is_name is_path is_label (inr more) = record {
  labels = label ∷ [];
  are_labels = All-push (IsRuleLabel folder has_root) [] label (All-nil (IsRuleLabel folder has_root))
      (record { name = name; is_name = is_name; is_label = is_label ∙ ap (λ p. label_of p has_root) is_path });
  is_new = more;
}

-- the same of a result, and of the path that was found
pub adds_one_ok : {E : Type 0} (folder used : List ℕ) (has_root : Bool) (name : List ℕ) (found : Option (Vec ℕ Global)) (path : Vec ℕ Global)
    (passed label taken : List ℕ) (old : ClaimText) (result : Result LoadedText E)
    → MatchOption found (is_file_name name ≡ false) (λ p. (is_file_name name ≡ true) × (p.items ≡ rule_path used name)) → found ≡ Some path
    → used ≡ folder → passed ≡ path.items → label ≡ label_of passed has_root → taken ≡ label
    → IfOk result (λ new. (new.claims ≡ old) ⊎ (new.claims ≡ with_rule_line old taken)) → IfOk result (λ new. AddsRuleLines folder has_root old new.claims)
adds_one_ok folder used has_root name found path passed label taken old (Ok new) told is_found is_folder is_path is_label is_taken claims =
    let here : (is_file_name name ≡ true) × (path.items ≡ rule_path used name)
    = subst (λ f. MatchOption f (is_file_name name ≡ false) (λ p. (is_file_name name ≡ true) × (p.items ≡ rule_path used name))) is_found told in
    adds_one folder has_root name path.items taken old new.claims here.0 (here.1 ∙ ap (λ f. rule_path f name) is_folder)
    (is_taken ∙ is_label ∙ ap (λ p. label_of p has_root) is_path) claims
adds_one_ok folder used has_root name found path passed label taken old (Err fault) told is_found is_folder is_path is_label is_taken claims = tt

-- some are, and then some more
pub adds_both : (folder : List ℕ) (has_root : Bool) (old mid new : ClaimText) → AddsRuleLines folder has_root old mid
    → AddsRuleLines folder has_root mid new → AddsRuleLines folder has_root old new
adds_both folder has_root old mid new first then = record {
  labels = first.labels ++ then.labels;
  are_labels = All-append (IsRuleLabel folder has_root) first.labels then.labels first.are_labels then.are_labels;
  is_new = then.is_new ∙ ap (λ t. with_rule_lines t then.labels) first.is_new ∙ sym (with_rule_lines-append old first.labels then.labels);
}
