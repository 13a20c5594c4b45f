-- Rule files that are looked for by the names of rules, each of them once.
use Rattle.std.specs.Prelude.{◌≡◌, ◌≢◌, ℕ, ◌⊎◌, List, [], ◌∷◌, ◌++◌, Option, None, Some, false, true, if◌then◌else◌}
use Rattle.std.specs.Str.{bytes_eq}
use Rattle.ca_rule.specs.Prelude.{TableRule}
use Rattle.ca_pattern.specs.Prelude.{IsQuietTable, IsTableFault}
use Rattle.ca_report.specs.RulePaths.{is_file_name, rule_path}
use Rattle.ca_report.specs.declared.absence.Absence.{Absence}
use Rattle.ca_host.specs.Files.{Gives, Lacks}
use Rattle.ca_host.specs.RuleFiles.{Kept, AddsRuleFile, IsUnknownRuleOf, HasNoUnknownRule}
use Rattle.ca_host.specs.declared.files.FaultyFile.{FaultyFile}
use Rattle.ca_host.specs.declared.lookups.{Lookup.Lookup, NamedLookup.NamedLookup}
use Rattle.ca_host.specs.declared.lookups.Lookup.TheVariants.{Found, NoTable, Faulty, Memory}

-- what there was for a name, if it was looked for
abbrev pub look_of : List NamedLookup → (name : List ℕ) → Option Lookup
look_of [] name = None
look_of (l ∷ ls) name = if bytes_eq l.name.items name then Some l.look else look_of ls name

-- what a rule file with this path and these bytes is for a name: its good table of that name is put after the others, and its path; or nothing changes, and it has a table of another name, or this fault
abbrev pub IsLookOf : (name path bytes : List ℕ) → Lookup → (old new : Kept) → Type 0
IsLookOf name path bytes Found old new = AddsRuleFile name path bytes old new
IsLookOf name path bytes NoTable old new = (new ≡ old) × ((table : TableRule) × IsQuietTable bytes table × (table.name ≢ name))
IsLookOf name path bytes (Faulty fault) old new = (new ≡ old) × IsTableFault bytes fault
IsLookOf name path bytes Memory old new = new ≡ old

-- what there is where no bytes are looked at: no file is read at the path, for some reason, or memory is out
abbrev pub IsNoLook : Lacks → (path : List ℕ) → Lookup → Type 0
IsNoLook lacks path NoTable = (why : Absence) × lacks path why
IsNoLook lacks path Memory = Unit {0}
IsNoLook lacks path look = ⊥

-- what there is for a name at a path: what the bytes are that it gives, or none
abbrev pub IsLookup : Gives → Lacks → (name path : List ℕ) → Lookup → (old new : Kept) → Type 0
IsLookup gives lacks name path look old new =
    ((bytes : List ℕ) × gives path bytes × IsLookOf name path bytes look old new) ⊎ ((new ≡ old) × IsNoLook lacks path look)

-- there is one more name, of which this is known
abbrev pub AddsLook : (name : List ℕ) → Lookup → (olds news : List NamedLookup) → Type 0
AddsLook name look olds news = (added : NamedLookup) × (added.name.items ≡ name) × (added.look ≡ look) × (news ≡ olds ++ added ∷ [])

-- what there is for a name is what there was when it was looked for, and nothing changes; or it wasn't, and is what there is at the path now, which is remembered
abbrev pub LooksOnce : Gives → Lacks → (name path : List ℕ) → Lookup → (olds news : List NamedLookup) → (old new : Kept) → Type 0
LooksOnce gives lacks name path look olds news old new =
    ((look_of olds name ≡ Some look) × (news ≡ olds) × (new ≡ old))
    ⊎ ((look_of olds name ≡ None) × AddsLook name look olds news × IsLookup gives lacks name path look old new)

-- what is told of a rule file that was looked for by this name, and stands at this path: that it is faulty, with its fault
abbrev pub IsTold : (name path : List ℕ) → Lookup → Option FaultyFile → Type 0
IsTold name path Found found = found ≡ None
IsTold name path NoTable found = found ≡ None
IsTold name path (Faulty fault) found = (file : FaultyFile) × (found ≡ Some file) × (file.name.items ≡ name) × (file.path.items ≡ path) × (file.fault ≡ fault)
IsTold name path Memory found = ⊥

-- nothing is looked for, for a pattern file with these bytes: its rule is known, or it has none, or no file can have its name
abbrev pub IsUnasked : (pattern : List ℕ) → List TableRule → Type 0
IsUnasked pattern tables = HasNoUnknownRule pattern tables ⊎ ((name : List ℕ) × IsUnknownRuleOf pattern tables name × (is_file_name name ≡ false))

-- for a pattern file with these bytes whose rule is unknown, what there is for that rule's name in the folder is looked for once, and told
abbrev pub FindsOnce : Gives → Lacks → (folder pattern : List ℕ) → Option FaultyFile → (olds news : List NamedLookup) → (old new : Kept) → Type 0
FindsOnce gives lacks folder pattern found olds news old new =
    ((found ≡ None) × (news ≡ olds) × (new ≡ old) × IsUnasked pattern old.tables)
    ⊎ ((name : List ℕ) × IsUnknownRuleOf pattern old.tables name × (is_file_name name ≡ true) × ((look : Lookup)
    × LooksOnce gives lacks name (rule_path folder name) look olds news old new × IsTold name (rule_path folder name) look found))

-- where memory runs out, the rule files stay as they are. So do the names, or, for a pattern file with these bytes whose rule is unknown, what there is for that rule's name in the folder is looked for once
abbrev pub SearchesOn : Gives → Lacks → (folder pattern : List ℕ) → (olds news : List NamedLookup) → (rules : Kept) → Type 0
SearchesOn gives lacks folder pattern olds news rules =
    (news ≡ olds)
    ⊎ ((name : List ℕ) × IsUnknownRuleOf pattern rules.tables name × (is_file_name name ≡ true) × ((look : Lookup)
    × LooksOnce gives lacks name (rule_path folder name) look olds news rules rules))
