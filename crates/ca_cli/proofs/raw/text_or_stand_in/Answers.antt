use Rattle.std.proofs.Common.{◌∙◌, sym}
use Rattle.ca_cli.proofs.Utf8.{text_of_utf8, text_of_raw}
use Rattle.ca_cli.proofs.raw.text_or_stand_in.Goals as goal

pub returns-in-Ok : goal.returns-in-Ok
returns-in-Ok c = c.in-Ok.ensures.cases.0 ∙ sym (text_of_utf8 c.args.bytes.now c.in-Ok.ensures.cases.1)

pub returns-in-Err : goal.returns-in-Err
returns-in-Err c = sym (text_of_raw c.args.bytes.now c.in-Err.ensures.cases.0)
