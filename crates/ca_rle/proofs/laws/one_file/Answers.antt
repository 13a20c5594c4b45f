use Rattle.ca_rle.proofs.OneFile.{one_file}
use Rattle.ca_rle.proofs.laws.one_file.Goals as goal

pub returns : goal.returns
returns c = one_file
