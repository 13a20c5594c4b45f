use Rattle.std.proofs.Common.{map, take}
use Rattle.ca_rle.specs.Prelude.{item_text}
use Rattle.ca_rle.specs.inner.Written.{IsLaid}
use Rattle.ca_rle.proofs.write.layout.push_items.Given as goal

-- the items so far stand in lines, the last of which isn't ended
abbrev pub invariant-items : goal.invariant-items
invariant-items l = IsLaid l.fn.out.items l.out.items l.filled (map (item_text l.states) (take l.item-index l.items))
