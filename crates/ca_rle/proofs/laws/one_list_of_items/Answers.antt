use Rattle.ca_rle.proofs.OneList.{one_list}
use Rattle.ca_rle.proofs.laws.one_list_of_items.Goals as goal

pub returns : goal.returns
returns c = one_list
