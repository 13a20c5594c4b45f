use Rattle.ca_rle.proofs.GoodItem.{good_item_or_end}
use Rattle.ca_rle.proofs.laws.item_or_end.Goals as goal

pub returns : goal.returns
returns c = good_item_or_end
