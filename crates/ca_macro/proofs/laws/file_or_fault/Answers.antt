use Rattle.ca_macro.proofs.FileOrFault.{file_or_fault}
use Rattle.ca_macro.proofs.laws.file_or_fault.Goals as goal

pub returns : goal.returns
returns c = file_or_fault
