use Rattle.std.proofs.Common.{sym}
use Rattle.ca_cli.specs.Folders.{folder_of_rules}
use Rattle.cafile.specs.Folders.{has_to_be_folder}
use Rattle.cafile.proofs.Passed.{passed-none, passed-some, passed-not}
use Rattle.cafile.proofs.rules_folder.Goals as goal

pub returns-in_default : goal.returns-in_default
returns-in_default c =
    let request = c.args.request.now in
    passed-none (has_to_be_folder request) (folder_of_rules request) (sym (rw c.in_default.is at c.rules_folder.ensures))

pub returns-then-has_to_be_folder : goal.returns-then-has_to_be_folder
returns-then-has_to_be_folder c =
    let request = c.args.request.now in
    passed-some (has_to_be_folder request) (folder_of_rules request) c.in-Some.folder.now c.has_to_be_folder.result
    (sym (rw c.in-Some.is at c.rules_folder.ensures)) c.has_to_be_folder.ensures c.if-has_to_be_folder.true

pub returns : goal.returns
returns c =
    let request = c.args.request.now in
    passed-not (has_to_be_folder request) (folder_of_rules request) c.in-Some.folder.now c.has_to_be_folder.result
    (sym (rw c.in-Some.is at c.rules_folder.ensures)) c.has_to_be_folder.ensures c.if-has_to_be_folder.false
