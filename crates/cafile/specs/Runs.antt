-- What a run of the program writes of files, as the words ask.
use Rattle.std.specs.Prelude.{◌≡◌, ℕ, map, List, Option}
use Rattle.ca_plane.specs.Prelude.{Counted}
use Rattle.ca_report.specs.declared.fault.ToolFault.{ToolFault}
use Rattle.ca_identify_lines.specs.declared.{known_rules.KnownRules.KnownRules, task.Task.Task, entry.Subject.Subject, entry.Entry.Entry}
use Rattle.ca_identify_lines.specs.Prelude.{WritesCatalog, EndsCatalog}
use Rattle.ca_cli.specs.Words.{memo_of, work_of, generations_of}
use Rattle.ca_cli.specs.declared.commands.{identify.Search.Search, pattern.PatternExtras.PatternExtras}
use Rattle.ca_host.specs.declared.{rules.RuleFiles.RuleFiles}
use Rattle.cafile.specs.declared.identify.PathContent.{PathContent}
use Rattle.cafile.specs.Scopes.{scope_of}
use Rattle.cafile.specs.Contents.{loaded_at, handed_at}

-- what is done with each file is what these words ask for
pub record IsTask (search : Search) (extras : PatternExtras) (task : Task) : Type 0 where
  pub generations : task.generations ≡ generations_of extras.after
  pub memo : task.limits.memo ≡ memo_of extras.extras.memo
  pub work : task.limits.work ≡ work_of extras.extras.work
  pub scope : task.scope ≡ scope_of search.limit
  pub codes : task.codes ≡ search.codes

-- these are the rule files, and what the files of the paths gave, each at its place
pub record AreHanded (rules : RuleFiles) (loaded : List PathContent) (known : KnownRules) (subjects : List Subject) : Type 0 where
  pub paths : known.paths.now ≡ rules.paths.items
  pub tables : known.tables.now ≡ rules.tables.items
  pub files : map handed_at subjects ≡ map loaded_at loaded

-- the claim text is written on just these files, under just these rule files, with these entries
abbrev pub WritesClaims : {W : Type 0} → (W → Option (List ℕ)) → Counted W → Counted W → RuleFiles → Task → List PathContent → List Entry → Type 0
WritesClaims contents old new rules task loaded entries = (known : KnownRules) × (subjects : List Subject)
    × AreHanded rules loaded known subjects × WritesCatalog contents old new known task subjects entries

-- why it isn't
abbrev pub EndsClaims : {W : Type 0} → (W → Option (List ℕ)) → Counted W → Counted W → RuleFiles → Task → List PathContent → ToolFault → Type 0
EndsClaims contents old new rules task loaded fault = (known : KnownRules) × (subjects : List Subject)
    × AreHanded rules loaded known subjects × EndsCatalog contents old new known task subjects fault
