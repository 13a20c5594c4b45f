-- The folder of rules that is looked at before anything else.
use Rattle.std.specs.Prelude.{ℕ, List, Bool, true, Option, None, Some, if◌then◌else◌}
use Rattle.ca_identify_lines.specs.Prelude.{is_claim_path}
use Rattle.ca_cli.specs.Folders.{folder_of_rules}
use Rattle.ca_cli.specs.declared.request.Request.{Request}
use Rattle.ca_cli.specs.declared.request.Request.TheVariants.{Identify, Census}

-- whether a path is refused where it isn't that of a folder: where a claim text is written, only if it can name it
abbrev pub has_to_be_folder : Request → List ℕ → Bool
has_to_be_folder (Identify paths search extras) folder = is_claim_path folder
has_to_be_folder (Census paths search (Some into) extras) folder = is_claim_path folder
has_to_be_folder _ folder = true

-- what is there, if it passes
abbrev pub passed : (List ℕ → Bool) → Option (List ℕ) → Option (List ℕ)
passed test None = None
passed test (Some folder) = if test folder then Some folder else None

-- the folder of rules that has to be one
abbrev pub checked_folder : Request → Option (List ℕ)
checked_folder request = passed (has_to_be_folder request) (folder_of_rules request)
