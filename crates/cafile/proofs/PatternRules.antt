-- What is known of the rule files of one pattern file.
use Rattle.std.proofs.Common.{◌≡◌, ℕ, List, [], Option, Some, Vec, subst, sym}
use Rattle.std.specs.Prelude.{String, string_bytes}
use Rattle.std.specs.declared.alloc.Global.{Global}
use Rattle.ca_host.specs.Files.{Gives, Lacks}
use Rattle.ca_host.specs.RuleFiles.{Kept, AddsTableOf, AddsPath}
use Rattle.ca_host.specs.Lookups.{FindsOnce}
use Rattle.ca_host.specs.declared.files.FaultyFile.{FaultyFile}
use Rattle.ca_host.specs.declared.lookups.NamedLookup.{NamedLookup}
use Rattle.ca_cli.specs.declared.commands.pattern.PatternExtras.{PatternExtras}
use Rattle.cafile.specs.PatternRules.{IsNamedFile, FindsIn, FindsAfterNamed}

-- the rule file that the words name is added to none
pub names : (path : Option (String Global)) (bytes : Option (Vec ℕ Global)) (text : String Global) (content : Vec ℕ Global) (used taken : List ℕ) (old new : Kept)
    → path ≡ Some text → bytes ≡ Some content → used ≡ string_bytes text → taken ≡ content.items → old.tables ≡ [] → old.paths ≡ []
    → AddsTableOf taken old.tables new.tables → AddsPath used old.paths new.paths → IsNamedFile path bytes new
names path bytes text content used taken old new is_path is_bytes is_used is_taken no_tables no_paths table place =
    rw (is_path, is_bytes) (
      subst (λ b. AddsTableOf b [] new.tables) is_taken (subst (λ ts. AddsTableOf taken ts new.tables) no_tables table),
      subst (λ p. AddsPath p [] new.paths) is_used (subst (λ ps. AddsPath used ps new.paths) no_paths place),
    )

-- and what is in the folder is looked for after it
pub finds_after : (gives : Gives) (lacks : Lacks) (extras : PatternExtras) (bytes : Option (Vec ℕ Global)) (pattern : List ℕ) (folder : String Global) (used : List ℕ)
    (found told : Option FaultyFile) (olds news : List NamedLookup) (named rules : Kept) → IsNamedFile extras.rule bytes named → extras.folder ≡ Some folder
    → used ≡ string_bytes folder → olds ≡ [] → found ≡ told → FindsOnce gives lacks used pattern found olds news named rules
    → FindsAfterNamed gives lacks extras bytes pattern told rules
finds_after gives lacks extras bytes pattern folder used found told olds news named rules file is_folder is_used none is_told finds =
    let first = subst (λ ls. FindsOnce gives lacks used pattern found ls news named rules) none finds in
    let here = subst (λ f. FindsOnce gives lacks f pattern found [] news named rules) is_used first in
    let all = subst (λ t. FindsOnce gives lacks (string_bytes folder) pattern t [] news named rules) is_told here in
    (named, file, subst (λ f. FindsIn gives lacks f pattern told named rules) (sym is_folder) (news, all))
