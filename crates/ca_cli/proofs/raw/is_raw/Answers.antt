use Rattle.std.proofs.Common.{◌∙◌}
use Rattle.ca_cli.proofs.Utf8.{err_of_raw}
use Rattle.ca_cli.proofs.raw.is_raw.Goals as goal

pub returns : goal.returns
returns c = c.is_err.ensures.value ∙ err_of_raw c.args.bytes.now _ _ _ c.from_utf8.ensures.cases
