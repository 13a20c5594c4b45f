-- The rule files that are known where one pattern file is shown, converted or drawn.
use Rattle.std.specs.Prelude.{◌≡◌, ◌⊎◌, ℕ, List, [], Option, None, Some, IsSome, String, string_bytes, Vec}
use Rattle.std.specs.declared.alloc.Global.{Global}
use Rattle.ca_report.specs.declared.fault.ToolFault.{ToolFault}
use Rattle.ca_report.specs.declared.fault.ToolFault.TheVariants.{Memory}
use Rattle.ca_host.specs.Files.{Gives, Lacks}
use Rattle.ca_host.specs.RuleFiles.{Kept, AddsTableOf, AddsPath, IsBadTable}
use Rattle.ca_host.specs.Lookups.{FindsOnce}
use Rattle.ca_host.specs.declared.files.FaultyFile.{FaultyFile}
use Rattle.ca_host.specs.declared.lookups.NamedLookup.{NamedLookup}
use Rattle.ca_cli.specs.declared.commands.pattern.PatternExtras.{PatternExtras}
use Rattle.cafile.specs.declared.pattern_rules.UnknownRules.{UnknownRules}
use Rattle.cafile.specs.declared.pattern_rules.UnknownRules.TheVariants.{Named, Found}

-- the rule file that the words name, with this path and these bytes, if there is one, and no other
abbrev pub IsNamedFile : (path : Option (String Global)) → (bytes : Option (Vec ℕ Global)) → Kept → Type 0
IsNamedFile (Some path) (Some bytes) rules = AddsTableOf bytes.items [] rules.tables × AddsPath (string_bytes path) [] rules.paths
IsNamedFile path bytes rules = (rules.tables ≡ []) × (rules.paths ≡ [])

-- why it isn't known
abbrev pub IsNamedFault : (path : Option (String Global)) → (bytes : Option (Vec ℕ Global)) → ToolFault → Type 0
IsNamedFault (Some path) (Some bytes) fault = IsBadTable bytes.items fault
IsNamedFault path bytes fault = ⊥

-- what is found for a pattern file with these bytes in the folder of rules, from when no name was looked for; nothing, where there is none
abbrev pub FindsIn : Gives → Lacks → (folder : Option (String Global)) → (pattern : List ℕ) → Option FaultyFile → (old new : Kept) → Type 0
FindsIn gives lacks None pattern found old new = (found ≡ None) × (new ≡ old)
FindsIn gives lacks (Some folder) pattern found old new = (looks : List NamedLookup) × FindsOnce gives lacks (string_bytes folder) pattern found [] looks old new

-- what comes of it, after the rule file that the words name
abbrev pub FindsAfterNamed : Gives → Lacks → PatternExtras → (bytes : Option (Vec ℕ Global)) → (pattern : List ℕ) → Option FaultyFile → Kept → Type 0
FindsAfterNamed gives lacks extras bytes pattern found rules = (named : Kept) × IsNamedFile extras.rule bytes named × FindsIn gives lacks extras.folder pattern found named rules

-- why the rule files aren't known: the one that the words name has this fault; that one is good, and memory is out for what is in the folder; or what is found there is this faulty file
abbrev pub IsUnknownRules : Gives → Lacks → PatternExtras → (bytes : Option (Vec ℕ Global)) → (pattern : List ℕ) → UnknownRules → Type 0
IsUnknownRules gives lacks extras bytes pattern (Named fault) =
    IsNamedFault extras.rule bytes fault ⊎ ((fault ≡ Memory) × IsSome extras.folder × ((named : Kept) × IsNamedFile extras.rule bytes named))
IsUnknownRules gives lacks extras bytes pattern (Found faulty) = (rules : Kept) × FindsAfterNamed gives lacks extras bytes pattern (Some faulty) rules
