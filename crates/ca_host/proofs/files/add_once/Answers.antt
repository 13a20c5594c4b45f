use Rattle.std.proofs.Common.{◌≡◌, None, Some, inr}
use Rattle.ca_host.specs.Files.{bytes_at}
use Rattle.ca_host.proofs.Outcomes.{at_none}
use Rattle.ca_host.proofs.files.add_once.Goals as goal

-- the file is added, of a label that no file had
pub returns-clause-ok : goal.returns-clause-ok
returns-clause-ok g c =
    let none : bytes_at c.args.files.now.items c.args.label.now ≡ None = rw (← c.deref.ensures.value) (at_none c.bytes_at.result (λ bytes. bytes_at c.deref.result.now c.args.label.now ≡ Some bytes.now) (cc) c.bytes_at.ensures) in
    let given = rw c.in-Some.is at c.in_ok-bytes.ensures in
    inr (none, inr (c.in_ok-file.file, c.in_ok-file.ensures.path, rw c.in_ok-file.ensures.bytes given, c.in_ok-push.ensures.items))
