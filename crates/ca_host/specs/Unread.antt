-- What reading a whole file gives.
use Rattle.std.specs.Prelude.{ℕ, List, Option}
use Rattle.ca_report.specs.Prelude.{ReadsAll}
use Rattle.ca_report.specs.declared.absence.Absence.{Absence}
use Rattle.ca_host.specs.declared.whole_files.Unread.{Unread}
use Rattle.ca_host.specs.declared.whole_files.Unread.TheVariants.{Absent, Memory}

-- some reader gave just these bytes, up to its end, and no more than a file may have; what is told of the bytes that a reader still gives is what a reader of this kind tells
abbrev pub IsWholeFile : {F : Type 0} → (F → Option (List ℕ)) → List ℕ → Type 0
IsWholeFile {F} remaining bytes = (old new : F) × ReadsAll (remaining old) (remaining new) bytes

-- a file isn't read for this reason, or memory is out
abbrev pub IsUnread : (Absence → Type 0) → Unread → Type 0
IsUnread lacks (Absent why) = lacks why
IsUnread lacks Memory = Unit {0}
