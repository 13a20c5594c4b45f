-- What a run over a pattern file reads and writes.
use Rattle.std.specs.Prelude.{◌≡◌, ◌≢◌, ℕ, List, [], ◌∷◌, Option, None, Some, Result, ◌⊎◌}
use Rattle.ca_plane.specs.Prelude.{Counted}
use Rattle.ca_rule.specs.Prelude.{TableRule}
use Rattle.ca_rule.specs.TableFaults as table_faults
use Rattle.ca_rule.specs.declared.table.fault.TableFault.{TableFault}
use Rattle.ca_rule.specs.declared.table.fault.TableFault.TheVariants as table_fault
use Rattle.ca_pattern.specs.Prelude.{IsQuietTable, IsSummary, IsSummaryFault, IsConverted, IsConvertFault, IsSummaryAfter, IsReachFault, IsConvertedAfter, IsConvertFaultAfter}
use Rattle.ca_pattern.specs.declared.{pattern.Summary.Summary, convert_fault.ConvertFault.ConvertFault, located_fault.LocatedFault.LocatedFault}
use Rattle.ca_pattern.specs.declared.convert_fault.ConvertFault.TheVariants as convert_fault
use Rattle.ca_pattern.specs.declared.located_fault.LocatedFault.TheVariants as located
use Rattle.ca_pattern.specs.declared.located_fault.LocatedFault.TheVariants.{Unread, UnnamedRule}
use Rattle.ca_report.specs.declared.{detailed_fault.DetailedFault.DetailedFault, fault.InputFault.InputFault, fault.ToolFault.ToolFault, form.TextForm.TextForm, form.Form.Form}
use Rattle.ca_report.specs.declared.fault.InputFault.TheVariants as inputs
use Rattle.ca_report.specs.declared.fault.ToolFault.TheVariants.{Input, BadTable, Convert, GenTooLarge, Work, Range, Window, Memory}
use Rattle.ca_report.specs.declared.form.TextForm.TheVariants as forms
use Rattle.ca_report.specs.declared.form.Form.TheVariants.{Text, Picture}
use Rattle.ca_pattern_runs.specs.{Drawn.IsDrawnAfter, Drawn.IsCaptionAfter, Drawn.HasNoWindowAfter, Shown.summary_text}
use Rattle.ca_report.specs.Prelude.{WritesOneOf, ReadsAll, GivesTooMany, GivesSome, TakesFile}

-- what a file gave that isn't read; of a read that fails the device tells
abbrev pub IsInputFault : Option (List ℕ) → Option (List ℕ) → InputFault → Type 0
IsInputFault old new inputs.Read = Unit {0}
IsInputFault old new inputs.TooLong = GivesTooMany old new
IsInputFault old new inputs.Memory = GivesSome old new

-- the tables that a run knows: that of the rule file, or none without one
abbrev pub AreKnownTables : Option (List ℕ) → List TableRule → Type 0
AreKnownTables None tables = tables ≡ []
AreKnownTables (Some rule) tables = (table : TableRule) × IsQuietTable rule table × (tables ≡ table ∷ [])

-- the rule file is a table, and this holds of the tables
pub record HoldsOfTables (rule : Option (List ℕ)) (Holds : List TableRule → Type 0) : Type 0 where
  pub tables : List TableRule
  pub known : AreKnownTables rule tables
  pub holds : Holds tables

-- the file was read whole, the rule file is a table, and this holds of the file's bytes and the tables
pub record HoldsOfReadFile (old new rule : Option (List ℕ)) (Holds : List ℕ → List TableRule → Type 0) : Type 0 where
  pub bytes : List ℕ
  pub tables : List TableRule
  pub read : ReadsAll old new bytes
  pub known : AreKnownTables rule tables
  pub holds : Holds bytes tables

-- the text is the five lines of a summary that is true of the bytes
pub record IsShown (bytes : List ℕ) (tables : List TableRule) (text : List ℕ) : Type 0 where
  pub summary : Summary
  pub holds : IsSummary bytes tables summary
  pub lines : text ≡ summary_text summary

-- what is wrong with the rule file, or that its table may be out of memory
abbrev pub IsRuleFileFault : Option (List ℕ) → TableFault → Type 0
IsRuleFileFault rule fault = (text : List ℕ) × (rule ≡ Some text) × table_faults.IsTableTextFault text fault

-- a run tells what is wrong with its rule file, where IsFault says that: out of memory is reported alone
abbrev pub TellsTable : (TableFault → Type 0) → ToolFault → Type 0
TellsTable IsFault (BadTable fault) = (fault ≢ table_fault.Memory) × IsFault fault
TellsTable IsFault Memory = IsFault table_fault.Memory
TellsTable IsFault told = ⊥

-- the same of why its pattern isn't shown or converted
abbrev pub TellsConvert : (ConvertFault → Type 0) → ToolFault → Type 0
TellsConvert IsFault (Convert fault) = (fault ≢ convert_fault.Memory) × IsFault fault
TellsConvert IsFault Memory = IsFault convert_fault.Memory
TellsConvert IsFault told = ⊥

-- what is reported where a pattern isn't opened, advanced by some generations, or written
abbrev pub reported : LocatedFault → DetailedFault ToolFault
reported (Unread bad) = record { fault = Convert (convert_fault.BadPattern bad.fault); line = bad.line; rule_text = None }
reported (UnnamedRule unnamed) = record { fault = Convert (convert_fault.BadRule unnamed.fault); line = None; rule_text = Some unnamed.rule_text }
reported located.StateTooLarge = record { fault = Convert convert_fault.StateTooLarge; line = None; rule_text = None }
reported located.TooManyCells = record { fault = Convert convert_fault.TooManyCells; line = None; rule_text = None }
reported located.GenTooLarge = record { fault = GenTooLarge; line = None; rule_text = None }
reported located.Work = record { fault = Work; line = None; rule_text = None }
reported located.Range = record { fault = Range; line = None; rule_text = None }
reported located.Memory = record { fault = Memory; line = None; rule_text = None }

-- and a run tells why its pattern isn't opened, taken on or written, where IsFault says that
abbrev pub TellsPattern : (LocatedFault → Type 0) → ToolFault → Type 0
TellsPattern IsFault told = (refused : LocatedFault) × IsFault refused × (told ≡ (reported refused).fault)

-- why a run over bytes wrote nothing, where IsFault says what it tells of them under some tables: the rule file is no good table, or memory is out
-- for it; or it is a table, and that holds
abbrev pub IsBytesFault : Option (List ℕ) → (List TableRule → ToolFault → Type 0) → ToolFault → Type 0
IsBytesFault rule IsFault told = TellsTable (IsRuleFileFault rule) told ⊎ HoldsOfTables rule (λ tables. IsFault tables told)

-- a text that IsText is written, with the status 0; or a first part of such a text, and then a write fails; or nothing, for a fault that holds
abbrev pub WritesText : {W : Type 0} → (W → Option (List ℕ)) → Counted W → Counted W → (List ℕ → Type 0) → (ToolFault → Type 0) → Result ℕ ToolFault → Type 0
WritesText contents old new IsText IsFault result = WritesOneOf contents old new (λ text status. (status ≡ 0) × IsText text) IsText IsFault result

-- the same of a run over the bytes of a pattern file, and over the text of a rule file, if there is one, by whose table the text and the fault go
abbrev pub WritesUnder : {W : Type 0} → (W → Option (List ℕ)) → Counted W → Counted W → Option (List ℕ) → (List TableRule → List ℕ → Type 0)
    → (List TableRule → ToolFault → Type 0) → Result ℕ ToolFault → Type 0
WritesUnder contents old new rule IsText IsFault result =
    WritesText contents old new (λ text. HoldsOfTables rule (λ tables. IsText tables text)) (IsBytesFault rule IsFault) result

-- the text is what is written of a pattern file with these bytes: the five lines of a true summary, or the file that it is converted to
abbrev pub IsFormOf : TextForm → List ℕ → List TableRule → List ℕ → Type 0
IsFormOf forms.Summary bytes tables text = IsShown bytes tables text
IsFormOf (forms.File target) bytes tables text = IsConverted bytes tables target text

-- why it isn't written
abbrev pub IsFormFault : TextForm → List ℕ → List TableRule → ConvertFault → Type 0
IsFormFault forms.Summary bytes tables fault = IsSummaryFault bytes tables fault
IsFormFault (forms.File target) bytes tables fault = IsConvertFault bytes tables target fault

-- the text is the five lines of a summary that is true of the plane of the bytes' pattern after n generations
pub record IsShownAfter (bytes : List ℕ) (tables : List TableRule) (n : ℕ) (text : List ℕ) : Type 0 where
  pub summary : Summary
  pub holds : IsSummaryAfter bytes tables n summary
  pub lines : text ≡ summary_text summary

-- what is written of that plane: those lines, the file that it is converted to, or a picture
abbrev pub IsFormAfter : Form → List ℕ → List TableRule → ℕ → List ℕ → Type 0
IsFormAfter (Text forms.Summary) bytes tables n text = IsShownAfter bytes tables n text
IsFormAfter (Text (forms.File target)) bytes tables n text = IsConvertedAfter bytes tables n target text
IsFormAfter (Picture request) bytes tables n text = IsDrawnAfter bytes tables n request text

-- the line that tells of it: of a picture its caption, and of all else none
abbrev pub IsFormCaption : Form → List ℕ → List TableRule → ℕ → List ℕ → Type 0
IsFormCaption (Text form) bytes tables n text = text ≡ []
IsFormCaption (Picture request) bytes tables n text = IsCaptionAfter bytes tables n request text

-- the first reason for which no such text is written, where `work` units of work may be done: the plane isn't reached,
-- or it isn't written as a file
abbrev pub IsTextFault : TextForm → List ℕ → List TableRule → (n work : ℕ) → LocatedFault → Type 0
IsTextFault forms.Summary bytes tables n work refused = IsReachFault bytes tables n work refused
IsTextFault (forms.File target) bytes tables n work refused = IsConvertFaultAfter bytes tables n work target refused

-- and the first for which nothing of any form is written: a picture has no window as it is asked for, besides
abbrev pub IsFormFaultAfter : Form → List ℕ → List TableRule → (n work : ℕ) → ToolFault → Type 0
IsFormFaultAfter (Text form) bytes tables n work told = TellsPattern (IsTextFault form bytes tables n work) told
IsFormFaultAfter (Picture request) bytes tables n work (Window fault) = HasNoWindowAfter bytes tables n request fault
IsFormFaultAfter (Picture request) bytes tables n work told = TellsPattern (IsReachFault bytes tables n work) told

-- why a run wrote nothing, where IsFault says why bytes under some tables are refused: the file isn't read; or it is, and a run over its bytes writes
-- nothing
abbrev pub IsRunFault : Option (List ℕ) → Option (List ℕ) → Option (List ℕ) → (List ℕ → List TableRule → ConvertFault → Type 0) → ToolFault → Type 0
IsRunFault old new rule IsFault (Input fault) = IsInputFault old new fault
IsRunFault old new rule IsFault told = (bytes : List ℕ) × ReadsAll old new bytes × IsBytesFault rule (λ tables. TellsConvert (IsFault bytes tables)) told

-- a run over a file, and over the text of a rule file, if there is one: the file is read, and a text that IsText of its bytes is written, with the
-- status 0; or a first part of such a text, and then a write fails; or nothing, for a fault that holds
pub record RunsOver {R W : Type 0} (remaining : R → Option (List ℕ)) (contents : W → Option (List ℕ))
    (input read : Counted R) (rule : Option (List ℕ))
    (output written : Counted W) (IsText : List ℕ → List TableRule → List ℕ → Type 0) (IsFault : List ℕ → List TableRule → ConvertFault → Type 0)
    (result : Result ℕ ToolFault) : Type 0 where
  pub reads : TakesFile remaining input read (Input inputs.Read) result
  pub writes : WritesOneOf contents output written
      (λ text status. (status ≡ 0) × HoldsOfReadFile (remaining input.inner) (remaining read.inner) rule (λ bytes tables. IsText bytes tables text))
      (λ text. HoldsOfReadFile (remaining input.inner) (remaining read.inner) rule (λ bytes tables. IsText bytes tables text))
      (IsRunFault (remaining input.inner) (remaining read.inner) rule IsFault) result
