use Rattle.ca_rle.proofs.FileOrFault.{file_or_fault}
use Rattle.ca_rle.proofs.laws.file_or_fault.Goals as goal

pub returns : goal.returns
returns c = file_or_fault
