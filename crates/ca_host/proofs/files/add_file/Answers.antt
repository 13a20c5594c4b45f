use Rattle.std.proofs.Common.{sym, append-nil}
use Rattle.ca_host.specs.Files.{Loaded, Lost}
use Rattle.ca_host.proofs.Outcomes.{at_absent}
use Rattle.ca_host.proofs.files.add_file.Goals as goal

-- the file is read
pub returns-in_ok-push-in-Ok : goal.returns-in_ok-push-in-Ok
returns-in_ok-push-in-Ok g c =
    (Loaded c.in_ok-file-in-Ok.file, (c.in_ok-file-in-Ok.ensures.path, rw c.in_ok-file-in-Ok.ensures.bytes c.in-Ok.ensures.found), c.in_ok-push-in-Ok.ensures.items, sym (append-nil _))

-- there is a reason why it isn't
pub returns-in_ok-push-in-Err-Absent : goal.returns-in_ok-push-in-Err-Absent
returns-in_ok-push-in-Err-Absent g c =
    (Lost (record { path = c.in_ok-path-in-Err-Absent.path; why = c.in-Err-Absent.why }), (c.in_ok-path-in-Err-Absent.ensures.items, at_absent _ _ _ c.in-Err-Absent.field-0-is c.in-Err-Absent.ensures.absent), sym (append-nil _), c.in_ok-push-in-Err-Absent.ensures.items)
