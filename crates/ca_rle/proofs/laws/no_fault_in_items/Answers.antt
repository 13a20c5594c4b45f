use Rattle.ca_rle.proofs.NoFault.{no_bad_item}
use Rattle.ca_rle.proofs.laws.no_fault_in_items.Goals as goal

pub returns : goal.returns
returns c = no_bad_item
