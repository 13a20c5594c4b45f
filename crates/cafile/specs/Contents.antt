-- What the files of paths gave, and what is handed on of them.
use Rattle.std.specs.Prelude.{ℕ, List, Option, None, Some}
use Rattle.ca_answers.specs.declared.cause.Cause.{Cause}
use Rattle.ca_rule.specs.declared.table.fault.TableFault.{TableFault}
use Rattle.ca_pattern.specs.declared.file.File.{File}
use Rattle.ca_identify_lines.specs.declared.{entry.Content.Content, entry.Subject.Subject}
use Rattle.ca_identify_lines.specs.declared.entry.Content.TheVariants as handed
use Rattle.cafile.specs.declared.{identify.FileContent.FileContent, identify.PathContent.PathContent}
use Rattle.cafile.specs.declared.identify.FileContent.TheVariants as loaded

-- what a file gave: bytes; or none, for this cause; or, in their place, the rule file at a path, which was looked for by a name and has this fault
pub data Given : Type 0 where
  Bytes : (bytes : List ℕ) → Given
  Missing : (cause : Cause) → Given
  FaultyRule : (name path : List ℕ) → (fault : TableFault) → Given

-- a path, and what its file gave
pub record GivenAt : Type 0 where
  pub path : List ℕ
  pub gave : Given

-- what was loaded
abbrev pub loaded_content : FileContent → Given
loaded_content (loaded.Bytes bytes) = Bytes bytes.items
loaded_content (loaded.Missing cause) = Missing cause
loaded_content (loaded.FaultyRule faulty) = FaultyRule faulty.name.items faulty.path.items faulty.fault

abbrev pub loaded_at : PathContent → GivenAt
loaded_at file = record { path = file.path.now; gave = loaded_content file.content }

-- what is handed to a run
abbrev pub handed_content : Content → Given
handed_content (handed.Bytes bytes) = Bytes bytes.now
handed_content (handed.Missing cause) = Missing cause
handed_content (handed.FaultyRule rule) = FaultyRule rule.name.now rule.path.now rule.fault

abbrev pub handed_at : Subject → GivenAt
handed_at subject = record { path = subject.path.now; gave = handed_content subject.content }

-- the path and the bytes of a file that was read
abbrev pub file_at : File → GivenAt
file_at file = record { path = file.path.now; gave = Bytes file.bytes.now }

-- the same of a path, if its file was read
abbrev pub read_at : PathContent → Option GivenAt
read_at file = if_read file.path.now file.content where
  if_read : List ℕ → FileContent → Option GivenAt
  if_read path (loaded.Bytes bytes) = Some (record { path = path; gave = Bytes bytes.items })
  if_read path (loaded.Missing cause) = None
  if_read path (loaded.FaultyRule faulty) = None
