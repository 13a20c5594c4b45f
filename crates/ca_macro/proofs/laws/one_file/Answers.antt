use Rattle.ca_macro.proofs.OneMeaning.{one_file}
use Rattle.ca_macro.proofs.laws.one_file.Goals as goal

pub returns : goal.returns
returns c = one_file
