use Rattle.ca_macro.proofs.LeafLines.{split_found, split_end}
use Rattle.ca_macro.proofs.line.leaf.split_row.Goals as goal

pub returns-in-Some : goal.returns-in-Some
returns-in-Some c = search (split_found, c.split_at_first.ensures, c.in-Some.ensures)

pub returns-in-None : goal.returns-in-None
returns-in-None c =
    split_end c.args.bytes.now c.split_at_first.result.0.now c.split_at_first.result.1.now c.split_at_first.ensures.front c.split_at_first.ensures.rest
    c.in-None.ensures.cases
