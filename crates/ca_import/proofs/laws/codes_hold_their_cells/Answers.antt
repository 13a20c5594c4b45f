use Rattle.ca_import.proofs.ObjectCodes.{code_imported}
use Rattle.ca_import.proofs.laws.codes_hold_their_cells.Goals as goal

pub returns : goal.returns
returns c = code_imported
