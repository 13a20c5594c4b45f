-- What is handed on of the files so far, and of a whole run.
use Rattle.std.proofs.Common.{◌≡◌, ℕ, ◌+◌, ◌<◌, ◌⊎◌, List, [], ◌∷◌, ◌++◌, length, take, get_or, Option, Result, Ok, Err, IfOk, IfErr, sym, ap, ◌∙◌, inr}
use Rattle.std.specs.List.{filter_map}
use Rattle.std.proofs.lemmas.List.{take_more}
use Rattle.std.proofs.lemmas.List.Elements.{filter_map-append}
use Rattle.ca_plane.specs.Prelude.{Counted}
use Rattle.ca_report.specs.declared.fault.ToolFault.{ToolFault}
use Rattle.ca_report.specs.declared.fault.ToolFault.TheVariants.{Memory}
use Rattle.ca_identify_lines.specs.declared.{known_rules.KnownRules.KnownRules, task.Task.Task, entry.Subject.Subject, entry.Entry.Entry}
use Rattle.ca_identify_lines.specs.Prelude.{WritesCatalog, EndsCatalog}
use Rattle.ca_host.specs.declared.{rules.RuleFiles.RuleFiles}
use Rattle.cafile.specs.declared.identify.PathContent.{PathContent}
use Rattle.cafile.specs.Contents.{GivenAt, read_at}
use Rattle.cafile.specs.Runs.{AreHanded, WritesClaims, EndsClaims}

-- those that were read of one file more
pub read_more : (files : List PathContent) (i : ℕ) (file : PathContent) (old new : List GivenAt) → i < length files → file ≡ get_or files i file
    → old ≡ filter_map read_at (take i files) → new ≡ old ++ filter_map read_at (file ∷ []) → new ≡ filter_map read_at (take (i + 1) files)
read_more files i file old new lt is so_far added =
    added ∙ ap (λ l. l ++ filter_map read_at (file ∷ [])) so_far ∙ sym (filter_map-append read_at (take i files) (file ∷ []))
    ∙ sym (ap (filter_map read_at) (take_more files i file lt ∙ ap (λ f. take i files ++ f ∷ []) (sym is)))

-- the catalog of what is handed on is that of the files
pub claims_written : {W : Type 0} (contents : W → Option (List ℕ)) (old new : Counted W) (rules : RuleFiles) (task : Task) (loaded : List PathContent)
    (known : KnownRules) (subjects : List Subject) (result : Result (List Entry) ToolFault) → AreHanded rules loaded known subjects
    → IfOk result (WritesCatalog contents old new known task subjects) → IfOk result (WritesClaims contents old new rules task loaded)
claims_written contents old new rules task loaded known subjects (Ok entries) handed written = (known, subjects, handed, written)
claims_written contents old new rules task loaded known subjects (Err fault) handed written = tt

pub claims_ended : {W : Type 0} (contents : W → Option (List ℕ)) (old new : Counted W) (rules : RuleFiles) (task : Task) (loaded : List PathContent)
    (known : KnownRules) (subjects : List Subject) (result : Result (List Entry) ToolFault) → AreHanded rules loaded known subjects
    → IfErr result (EndsCatalog contents old new known task subjects)
    → IfErr result (λ fault. (fault ≡ Memory) ⊎ EndsClaims contents old new rules task loaded fault)
claims_ended contents old new rules task loaded known subjects (Ok entries) handed ended = tt
claims_ended contents old new rules task loaded known subjects (Err fault) handed ended = inr (known, subjects, handed, ended)
