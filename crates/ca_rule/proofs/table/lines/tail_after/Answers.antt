use Rattle.ca_rule.proofs.TextTails.{behind_stripped}
use Rattle.ca_rule.proofs.table.lines.tail_after.Goals as goal

pub returns : goal.returns
returns c = behind_stripped c.strip.result c.args.text.now c.args.bytes.now c.strip.ensures
