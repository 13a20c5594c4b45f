use Rattle.ca_macro.proofs.OneTidy.{one_tidy}
use Rattle.ca_macro.proofs.tidy_laws.one_tidy_text.Goals as goal

pub returns : goal.returns
returns c = one_tidy
