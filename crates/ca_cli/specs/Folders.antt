-- The folders that a request has.
use Rattle.std.specs.Prelude.{List, ℕ, Option, None, option_map, string_bytes}
use Rattle.ca_cli.specs.declared.request.Request.{Request}
use Rattle.ca_cli.specs.declared.request.Request.TheVariants.{Write, Verify, Identify, Census, Import, RuleFile, Help}

-- where rule files are looked for
abbrev pub folder_of_rules : Request → Option (List ℕ)
folder_of_rules (Write path form extras) = option_map string_bytes extras.folder
folder_of_rules (Verify paths folders extras) = option_map string_bytes folders.rules
folder_of_rules (Identify paths search extras) = option_map string_bytes extras.folder
folder_of_rules (Census paths search into extras) = option_map string_bytes extras.folder
folder_of_rules (Import words) = None
folder_of_rules (RuleFile text) = None
folder_of_rules (Help text) = None

-- where the paths of claim texts are looked for
abbrev pub folder_of_texts : Request → Option (List ℕ)
folder_of_texts (Verify paths folders extras) = option_map string_bytes folders.root
folder_of_texts _ = None
